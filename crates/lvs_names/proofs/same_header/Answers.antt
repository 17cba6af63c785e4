-- `lvs_names::same_header` meets its contract: the second bytes and the first are compared, then the rest. Assumes nothing.
use Rattle.lvs_names.proofs.Comparing.{first_differs, second_differs, two_agree}
use Rattle.lvs_names.proofs.same_header.Goals as goal

pub returns-then-s-c : goal.returns-then-s-c
returns-then-s-c c = second_differs c.requires c.if-s-c.true

pub returns-then-s-c-2 : goal.returns-then-s-c-2
returns-then-s-c-2 c = first_differs c.requires c.if-s-c-2.true

pub returns : goal.returns
returns c = two_agree c.requires c.if-s-c-2.false c.if-s-c.false c.same_bytes.ensures
