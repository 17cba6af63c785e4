-- An entry as the definitions have it, and those that an iteration has left.
use Rattle.std.specs.Prelude.{List, Option as Answer, Some, None}
use Rattle.std.proofs.Math.Option.{none, some}
use Rattle.lvs_spec.specs.Model.{component_of}
use Rattle.lvs_spec.specs.Certificates.{Entry, entries}
use Rattle.lvs_names.specs.declared.parts.Component.{Component}
use Rattle.lvs_certificates.specs.declared.Entries.{Entries}

abbrev pub entry_of : Answer Component → Entry
entry_of None = none
entry_of (Some c) = some (component_of c.bytes.now)

abbrev pub entries_left : Entries → List Entry
entries_left it = entries it.rest.now
