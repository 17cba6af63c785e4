-- `lvs_verdict::judge_model` meets its contract. Assumes nothing.
use Rattle.std.proofs.lemmas.Result.{err_from_is_err_and}
use Rattle.std.proofs.Common.{sym}
use Rattle.lvs_grammar.proofs.Answers.{reading_is}
use Rattle.lvs_verdict.proofs.Calls.{verdict_unreadable, verdict_judged}
use Rattle.lvs_verdict.proofs.judge_model.Goals as goal

pub returns-in_err-check_grammar : goal.returns-in_err-check_grammar
returns-in_err-check_grammar c =
    let p = err_from_is_err_and c.from_residual.result c.from_residual.ensures.1 in
    rw (p.1, p.2) (sym (verdict_unreadable _ (reading_is _ c.check_grammar.ensures c.in_err-check_grammar.was)))

pub returns : goal.returns
returns c = verdict_judged _ (reading_is _ c.check_grammar.ensures c.in_ok-check_grammar.was) c.check_rules.ensures
