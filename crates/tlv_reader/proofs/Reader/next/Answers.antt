-- `Reader::next` answers what stands at the place, and moves the reader as `moved` says.
use Rattle.tlv_reader.specs.Methods.{moved}
use Rattle.tlv_reader.proofs.Reader.next.Goals as goal

pub returns : goal.returns
unfolding moved
returns c = (c.element_at-read.ensures, cc)
