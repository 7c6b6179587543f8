use Rattle.std.proofs.Common.{◌≡◌, ◌∙◌, ℕ, ap, sym, Bool, true, ◌⊎◌, inl, inr, nat_lt}
use Rattle.vfa_ir.specs.declared.operations.Pred.{Pred}
use Rattle.vfa_fact.specs.Views.{in_fact}
use Rattle.vfa_xfer.specs.declared.comparisons.Answers.{Answers}
use Rattle.vfa_xfer.specs.Comparisons.{answers_by, answers_of}
use Rattle.vfa_xfer.proofs.OneSign.{for_equal, for_unequal, for_less, for_less_signed, for_not_less, for_not_less_signed, for_more, for_more_signed, for_not_more, for_not_more_signed}
use Rattle.vfa_xfer.proofs.comparisons.answers_of_one_sign.Goals as goal

module _ (w : ℕ) (A B : ℕ → Bool) (pred : Pred) (r : Answers) where
  at : (p : Pred) (answers : Answers) → pred ≡ p → answers ≡ answers_of p true w A B → answers ≡ answers_of pred true w A B
  at p answers e is = is ∙ ap (λ (q : Pred). answers_of q true w A B) (sym e)

  less : (pred ≡ Pred.Ult) ⊎ (pred ≡ Pred.Slt) → r ≡ answers_by true w nat_lt A B → r ≡ answers_of pred true w A B
  less (inl e) is = at Pred.Ult r e (for_less w A B r is)
  less (inr e) is = at Pred.Slt r e (for_less_signed w A B r is)

  not_less : (pred ≡ Pred.Uge) ⊎ (pred ≡ Pred.Sge) → r ≡ answers_by true w nat_lt A B → record { yes = r.no; no = r.yes } ≡ answers_of pred true w A B
  not_less (inl e) is = at Pred.Uge _ e (for_not_less w A B r is)
  not_less (inr e) is = at Pred.Sge _ e (for_not_less_signed w A B r is)

  more : (pred ≡ Pred.Ugt) ⊎ (pred ≡ Pred.Sgt) → r ≡ answers_by true w nat_lt B A → r ≡ answers_of pred true w A B
  more (inl e) is = at Pred.Ugt r e (for_more w A B r is)
  more (inr e) is = at Pred.Sgt r e (for_more_signed w A B r is)

  not_more : (pred ≡ Pred.Ule) ⊎ (pred ≡ Pred.Sle) → r ≡ answers_by true w nat_lt B A → record { yes = r.no; no = r.yes } ≡ answers_of pred true w A B
  not_more (inl e) is = at Pred.Ule _ e (for_not_more w A B r is)
  not_more (inr e) is = at Pred.Sle _ e (for_not_more_signed w A B r is)

pub returns-in-Eq : goal.returns-in-Eq
returns-in-Eq g c =
    let A = in_fact g.row.W c.args.a.now in
    let B = in_fact g.row.W c.args.b.now in
    at g.row.W A B c.args.pred c.same.result Pred.Eq c.same.result c.in-Eq.is (for_equal g.row.W A B c.same.result c.same.ensures)

pub returns-in-Ne : goal.returns-in-Ne
returns-in-Ne g c =
    let A = in_fact g.row.W c.args.a.now in
    let B = in_fact g.row.W c.args.b.now in
    c.negated.ensures ∙ at g.row.W A B c.args.pred c.same-in-Ne.result Pred.Ne _ c.in-Ne.is (for_unequal g.row.W A B c.same-in-Ne.result c.same-in-Ne.ensures)

pub returns-in-Ult : goal.returns-in-Ult
returns-in-Ult g c =
    less g.row.W (in_fact g.row.W c.args.a.now) (in_fact g.row.W c.args.b.now) c.args.pred c.before-in-Ult.result c.in-Ult.is c.before-in-Ult.ensures

pub returns-in-Uge : goal.returns-in-Uge
returns-in-Uge g c =
    c.negated-in-Uge.ensures
    ∙ not_less g.row.W (in_fact g.row.W c.args.a.now) (in_fact g.row.W c.args.b.now) c.args.pred c.before-in-Uge.result c.in-Uge.is c.before-in-Uge.ensures

pub returns-in-Ugt : goal.returns-in-Ugt
returns-in-Ugt g c =
    more g.row.W (in_fact g.row.W c.args.a.now) (in_fact g.row.W c.args.b.now) c.args.pred c.before-in-Ugt.result c.in-Ugt.is c.before-in-Ugt.ensures

pub returns-in-Ule : goal.returns-in-Ule
returns-in-Ule g c =
    c.negated-in-Ule.ensures
    ∙ not_more g.row.W (in_fact g.row.W c.args.a.now) (in_fact g.row.W c.args.b.now) c.args.pred c.before-in-Ule.result c.in-Ule.is c.before-in-Ule.ensures
