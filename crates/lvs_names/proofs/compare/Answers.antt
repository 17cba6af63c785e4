-- `lvs_names::compare` meets its contract. Assumes nothing.
use Rattle.std.proofs.Common.{ℕ, List, get_or, Fits, w8}
use Rattle.tlv.specs.Bytes.{Bytes}
use Rattle.lvs_names.proofs.Alone.{alone_of}
use Rattle.lvs_names.proofs.Comparing.{headed, compared_shorter, compared_header, compared_equal, compared_unequal}
use Rattle.lvs_names.proofs.compare.Goals as goal

bytes : (s : List ℕ) → ((i : ℕ) → Fits w8 (get_or s i 0)) → Bytes s
bytes s h i = (h i).fits

pub returns-then-s-n : goal.returns-then-s-n
returns-then-s-n c = compared_shorter _ _ (bytes _ c.type_inv.s) c.args.c.fits (alone_of _ _ c.args.c.alone) c.if-s-n.true

pub same_header-requires : goal.same_header-requires
same_header-requires c = headed _ _ (bytes _ c.type_inv.s) c.args.c.fits (alone_of _ _ c.args.c.alone) c.if-s-n.false

pub returns-then-not-same_header : goal.returns-then-not-same_header
returns-then-not-same_header c =
    compared_header _ _ (bytes _ c.type_inv.s) c.args.c.fits (alone_of _ _ c.args.c.alone) c.if-s-n.false c.same_header.ensures c.if-not-same_header.true

pub last_difference-left-requires : goal.last_difference-left-requires
last_difference-left-requires c = headed _ _ (bytes _ c.type_inv.s) c.args.c.fits (alone_of _ _ c.args.c.alone) c.if-s-n.false

pub returns-then-left-header : goal.returns-then-left-header
returns-then-left-header c =
    compared_equal _ _ (bytes _ c.type_inv.s) c.args.c.fits (alone_of _ _ c.args.c.alone) c.if-s-n.false c.same_header.ensures c.if-not-same_header.false
    c.last_difference-left.ensures c.if-left-header.true

pub returns : goal.returns
returns c =
    compared_unequal _ _ (bytes _ c.type_inv.s) c.args.c.fits (alone_of _ _ c.args.c.alone) c.if-s-n.false c.same_header.ensures c.if-not-same_header.false
    c.last_difference-left.ensures c.if-left-header.false
