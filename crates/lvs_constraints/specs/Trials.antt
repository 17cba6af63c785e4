-- What Constraints are tested on, and the components that Tags and arguments stand for, as bytes that begin with them.
use Rattle.std.specs.Prelude.{ℕ, ◌≡◌, List}
use Rattle.std.proofs.Math.Option as math
use Rattle.std.specs.declared.option.Option.{Option}
use Rattle.std.specs.declared.option.Option.TheVariants.{None, Some}
use denote.Ref.{Bor}
use Rattle.tlv.specs.Element.{Element}
use Rattle.lvs_spec.specs.Model.{Argument, component_of, argument_of}
use Rattle.lvs_spec.specs.Walk.{Bindings, argument_in}
use Rattle.lvs_bindings.specs.Slots.{bindings_of}
use Rattle.lvs_constraints.specs.declared.Trial.{Trial}

abbrev pub bindings : Trial → Bindings
bindings t = bindings_of t.names.packet.now t.names.key.now t.slots.now.spans

-- type and value of the component
abbrev pub content : Trial → Element
content t = component_of t.component.bytes.now

-- what bytes begin with, where there are any
abbrev pub component_in : Option (Bor (List ℕ)) → math.Option Element
component_in None = math.none
component_in (Some b) = math.some (component_of b.now)

-- the content of what a Tag is bound to
pub record BoundTo (s : Bindings) (tag : ℕ) (r : Option (Bor (List ℕ))) : Type 0 where
  pub is : argument_in s (Argument.tag tag) ≡ component_in r

-- and of what an argument stands for
pub record ArgumentIs (s : Bindings) (b : List ℕ) (r : Option (Bor (List ℕ))) : Type 0 where
  pub is : argument_in s (argument_of b) ≡ component_in r
