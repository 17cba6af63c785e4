-- `lvs_certificates::Entries` gives the entries of its list, one after the other. Assumes nothing.
use Rattle.std.proofs.Common.{rules, tests, ap, length, ◌≡◌, ◌<◌}
use Rattle.lvs_names.proofs.Alone.{alone_of}
use Rattle.lvs_certificates.proofs.Searches.{entries_end, entries_bad, entries_next}
use Rattle.lvs_certificates.proofs.EntriesIterator.next.Goals as goal

pub returns-then-is_empty-clause-steps : goal.returns-then-is_empty-clause-steps
returns-then-is_empty-clause-steps c =
    let none-left : length c.args.self.now.rest.now ≡ 0 = search (rules, tests) in
    let none = entries_end _ none-left in (none, none)

pub returns-in-Some-clause-steps : goal.returns-in-Some-clause-steps
returns-in-Some-clause-steps c = let key = c.in-Some.key in entries_next key.fits (alone_of _ _ key.alone) c.in-Some.ensures

pub returns-in-Some-clause-goes : goal.returns-in-Some-clause-goes
returns-in-Some-clause-goes c =
    let key = c.in-Some.key in
    let shorter = ap length (entries_next key.fits (alone_of _ _ key.alone) c.in-Some.ensures) in search rules

pub returns-in-None-clause-steps : goal.returns-in-None-clause-steps
returns-in-None-clause-steps c =
    let some-left : 0 < length c.args.self.now.rest.now = search (rules, tests) in entries_bad _ some-left c.in-None.ensures

pub returns-in-None-clause-goes : goal.returns-in-None-clause-goes
returns-in-None-clause-goes c =
    let some-left : 0 < length c.args.self.now.rest.now = search (rules, tests) in
    let shorter = ap length (entries_bad _ some-left c.in-None.ensures) in search rules
