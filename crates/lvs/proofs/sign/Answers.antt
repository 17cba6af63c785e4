-- `lvs::sign` meets its contract: what the callees answered says which case of `sign_outcome` it is. Assumes nothing.
use Rattle.std.proofs.Common.{List, ℕ, sym, ap}
use Rattle.std.proofs.lemmas.Result.{err_from_is_err_and}
use Rattle.lvs_spec.specs.Answers.{Buffers, sign_refused}
use Rattle.lvs_edges.proofs.Ordered.{walkable}
use Rattle.lvs_verdict.proofs.Calls.{judged_good, judged_bad}
use Rattle.lvs.proofs.Calls.{sign_refused_lem, sign_no_words, sign_no_room, sign_none, sign_some}
use Rattle.lvs.proofs.sign.Goals as goal

-- what was lent
abbrev lent : List ℕ → List ℕ → Buffers
lent words path = record { words = words; path = path }

pub returns-in_err-rows : goal.returns-in_err-rows
unfolding sign_refused
returns-in_err-rows c =
    let a = c.args in
    let p = err_from_is_err_and c.from_residual.result c.from_residual.ensures.1 in
    rw (p.1, p.2)
    (sym (sign_refused_lem a.model.now a.packet.now a.key.now (lent a.words.now a.path.now)
    (judged_bad a.model.now a.packet.now a.key.now c.judge_inputs.ensures c.in_err-rows.was)))

pub returns-then-words-lt-BINDING_WORDS : goal.returns-then-words-lt-BINDING_WORDS
unfolding sign_refused
returns-then-words-lt-BINDING_WORDS c =
    let a = c.args in
    sym (sign_no_words a.model.now a.packet.now a.key.now (lent a.words.now a.path.now) (judged_good c.judge_inputs.ensures c.in_ok-rows.was)
    c.if-words-lt-BINDING_WORDS.true)

pub returns-then-path-rows : goal.returns-then-path-rows
unfolding sign_refused
returns-then-path-rows c =
    let a = c.args in
    sym (sign_no_room a.model.now a.packet.now a.key.now (lent a.words.now a.path.now) (judged_good c.judge_inputs.ensures c.in_ok-rows.was)
    c.if-words-lt-BINDING_WORDS.false c.if-path-rows.true)

pub of-nodes-requires : goal.of-nodes-requires
of-nodes-requires c = walkable c.args.model.now (judged_good c.judge_inputs.ensures c.in_ok-rows.was).accepted

pub find_pair-requires : goal.find_pair-requires
find_pair-requires c =
    let g = judged_good c.judge_inputs.ensures c.in_ok-rows.was in
    record { packet_len_bound = g.packet_row.short; key_len_bound = g.key_row.short; slots_value = c.new-slots.ensures }

pub returns-in-None : goal.returns-in-None
returns-in-None c =
    let a = c.args in
    let same = ap (λ m. m.now) c.of-nodes.ensures in
    sign_none a.model.now a.packet.now a.key.now (lent a.words.now a.path.now) (judged_good c.judge_inputs.ensures c.in_ok-rows.was)
    c.if-words-lt-BINDING_WORDS.false c.if-path-rows.false (rw same at c.find_pair.ensures) c.in-None.is

pub returns-in-Some : goal.returns-in-Some
returns-in-Some c =
    let a = c.args in
    let same = ap (λ m. m.now) c.of-nodes.ensures in
    sign_some a.model.now a.packet.now a.key.now (lent a.words.now a.path.now) (judged_good c.judge_inputs.ensures c.in_ok-rows.was)
    c.if-words-lt-BINDING_WORDS.false c.if-path-rows.false (rw same at c.find_pair.ensures) c.in-Some.is c.write_words.ensures
