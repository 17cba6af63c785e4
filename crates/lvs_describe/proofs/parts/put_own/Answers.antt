use Rattle.std.proofs.Common.{refl}
use Rattle.lvs_describe.proofs.Puts.{describes_then, describes_stop, describes_as}
use Rattle.lvs_describe.proofs.Containers.{no_parent, with_parent}
use Rattle.lvs_describe.proofs.parts.put_own.Goals as goal

pub returns-then-parents-lt1 : goal.returns-then-parents-lt1
returns-then-parents-lt1 c = describes_as (no_parent _ c.number_in-id.ensures c.requires c.if-parents-lt1.true) c.pair.ensures

pub returns-in_err-number : goal.returns-in_err-number
returns-in_err-number c =
    rw c.from_residual.ensures (describes_as (with_parent _ c.number_in-id.ensures c.requires c.if-parents-lt1.false refl)
    (describes_stop _ c.in_err-number.ensures))

pub returns : goal.returns
returns c =
    describes_as (with_parent _ c.number_in-id.ensures c.requires c.if-parents-lt1.false c.number_in.ensures)
    (describes_then c.in_ok-number.ensures c.pair-2.ensures)
