-- `lvs::match_name` meets its contract: what the callees answered says which case of `match_outcome` it is. Assumes nothing.
use Rattle.std.proofs.Common.{[], sym, ap, ◌∙◌}
use Rattle.std.proofs.lemmas.Result.{err_from_is_err_and}
use Rattle.lvs_spec.specs.Answers.{match_refused}
use Rattle.lvs_spec.proofs.Names.{good_short}
use Rattle.lvs_names.proofs.Read.{read_bad, read_good, read_plain}
use Rattle.lvs_walk.proofs.Answers.{found_none, found_match}
use Rattle.lvs_edges.proofs.Ordered.{walkable}
use Rattle.lvs_verdict.specs.Answers.{verdict_of}
use Rattle.lvs.proofs.Calls.{match_refused_lem, match_bad_name, match_no_room, match_none, match_some}
use Rattle.lvs.proofs.match_name.Goals as goal

pub returns-in_err-judge_model : goal.returns-in_err-judge_model
unfolding match_refused
returns-in_err-judge_model c =
    let a = c.args in
    let p = err_from_is_err_and c.from_residual.result c.from_residual.ensures.1 in
    rw (p.1, p.2) (sym (match_refused_lem a.model.now a.name.now a.buffer.now (sym c.judge_model.ensures ∙ ap verdict_of c.in_err-judge_model.was)))

pub returns-in_err-row : goal.returns-in_err-row
unfolding match_refused
returns-in_err-row c =
    let a = c.args in
    let p = err_from_is_err_and c.from_residual-in_err-row.result c.from_residual-in_err-row.ensures.1 in
    rw (p.1, p.2)
    (sym (match_bad_name a.model.now a.name.now a.buffer.now (sym c.judge_model.ensures ∙ ap verdict_of c.in_ok-judge_model.was)
    (read_plain c.read_name.ensures c.in_err-row.was) (read_bad c.read_name.ensures c.in_err-row.was)))

pub returns-then-buffer-lt-BINDING_WORDS : goal.returns-then-buffer-lt-BINDING_WORDS
unfolding match_refused
returns-then-buffer-lt-BINDING_WORDS c =
    let a = c.args in
    sym (match_no_room a.model.now a.name.now a.buffer.now (sym c.judge_model.ensures ∙ ap verdict_of c.in_ok-judge_model.was)
    (read_good c.read_name.ensures c.in_ok-row.was) c.if-buffer-lt-BINDING_WORDS.true)

pub of-nodes-requires : goal.of-nodes-requires
of-nodes-requires c = walkable c.args.model.now (sym c.judge_model.ensures ∙ ap verdict_of c.in_ok-judge_model.was)

pub find_match-requires : goal.find_match-requires
find_match-requires c =
    record {
      name_len_bound = good_short 21 c.args.name.now (sym (read_good c.read_name.ensures c.in_ok-row.was));
      slots_value = c.new-slots.ensures;
    }

pub returns-in_default : goal.returns-in_default
returns-in_default c =
    let a = c.args in
    let same = ap (λ m. m.now) c.of-nodes.ensures in
    sym (match_none a.model.now a.name.now a.buffer.now (sym c.judge_model.ensures ∙ ap verdict_of c.in_ok-judge_model.was)
    (read_good c.read_name.ensures c.in_ok-row.was) c.if-buffer-lt-BINDING_WORDS.false (rw same at (found_none c.find_match.ensures c.in_default.is)))

pub returns : goal.returns
returns c =
    let a = c.args in
    let same = ap (λ m. m.now) c.of-nodes.ensures in
    let w = c.write_words-bound.ensures in
    match_some a.model.now a.name.now a.buffer.now (sym c.judge_model.ensures ∙ ap verdict_of c.in_ok-judge_model.was)
    (read_good c.read_name.ensures c.in_ok-row.was) c.if-buffer-lt-BINDING_WORDS.false (rw same at (found_match c.find_match.ensures c.in-Some.is))
    (w.counted []) (w.words_are [])
