use Rattle.std.proofs.Common.{◌≡◌, ◌∙◌, sym, subst}
use Rattle.std.proofs.lemmas.Result.{IfOk-weaker}
use Rattle.vfa_walk.specs.Kept.{kept_entries}
use Rattle.vfa_walk.specs.Tables.{state_at}
use Rattle.vfa_lazy.specs.declared.questions.Answer.{Answer}
use Rattle.vfa_lazy.specs.Questions.{IsAnswer, IsTrueOfRuns, IsTypedAnswer, place_of}
use Rattle.vfa_lazy.specs.Telling.{told_of}
use Rattle.vfa_lazy.proofs.Told.{is_answer, is_true, is_typed, never_reached}
use Rattle.vfa_lazy.proofs.asking.told_by_table.Goals as goal

pub returns-clause-answer : goal.returns-clause-answer
returns-clause-answer g c =
    let v = g.V.Values in
    let f = c.args.f.now in
    let place = c.args.place in
    let t = kept_entries c.in_ok-table.table in
    let table = c.in_ok-table.ensures.table in
    let shape = c.table_has_shape.ensures.shape f table.layout t c.was_checked.ensures.checked c.was_checked.ensures.printable table.is_layout table in
    let state = c.table_has_shape.ensures.places f table.layout t (place_of place) c.was_checked.ensures.checked c.was_checked.ensures.printable table.is_layout shape in
    IfOk-weaker c.told_at.result (λ a. a ≡ told_of (state_at v.answers f t (place_of place)) c.args.v.0) (IsAnswer v.answers f place c.args.v.0)
    (λ a told. subst (IsAnswer v.answers f place c.args.v.0) (sym told) (is_answer v.answers f place c.args.v.0 t v.ty v.proper table c.requires state)) c.told_at.ensures

pub returns-clause-is_true : goal.returns-clause-is_true
returns-clause-is_true g c =
    let v = g.V.Values in
    let f = c.args.f.now in
    let place = c.args.place in
    let t = kept_entries c.in_ok-table.table in
    let table = c.in_ok-table.ensures.table in
    let checked = c.was_checked.ensures.checked in
    let printable = c.was_checked.ensures.printable in
    let typed = c.table_is_true.ensures.typed f t checked printable table in
    let truth = c.table_is_true.ensures.is_true f t checked printable table in
    let places = c.true_table_is_true_everywhere.ensures.places f t checked printable typed truth in
    let unmet = c.true_table_is_true_everywhere.ensures.unmet f t (place_of place) checked printable typed truth in
    IfOk-weaker c.told_at.result (λ a. a ≡ told_of (state_at v.answers f t (place_of place)) c.args.v.0) (IsTrueOfRuns v.holds f (place_of place) c.args.v.0)
    (λ a told. subst (IsTrueOfRuns v.holds f (place_of place) c.args.v.0) (sym told) (is_true v.answers f place c.args.v.0 t v.holds places unmet)) c.told_at.ensures

pub returns-clause-typed : goal.returns-clause-typed
returns-clause-typed g c =
    let v = g.V.Values in
    let f = c.args.f.now in
    let place = c.args.place in
    let t = kept_entries c.in_ok-table.table in
    let table = c.in_ok-table.ensures.table in
    let shape = c.table_has_shape.ensures.shape f table.layout t c.was_checked.ensures.checked c.was_checked.ensures.printable table.is_layout table in
    let state = c.table_has_shape.ensures.places f table.layout t (place_of place) c.was_checked.ensures.checked c.was_checked.ensures.printable table.is_layout shape in
    IfOk-weaker c.told_at.result (λ a. a ≡ told_of (state_at v.answers f t (place_of place)) c.args.v.0) (IsTypedAnswer v.ty v.proper f c.args.v.0)
    (λ a told. subst (IsTypedAnswer v.ty v.proper f c.args.v.0) (sym told) (is_typed v.answers f place c.args.v.0 t v.ty v.proper state)) c.told_at.ensures

pub returns-clause-unreached : goal.returns-clause-unreached
returns-clause-unreached g c none =
    let v = g.V.Values in
    let f = c.args.f.now in
    let place = c.args.place in
    let t = kept_entries c.in_ok-table.table in
    let table = c.in_ok-table.ensures.table in
    let shape = c.table_has_shape.ensures.shape f table.layout t c.was_checked.ensures.checked c.was_checked.ensures.printable table.is_layout table in
    IfOk-weaker c.told_at.result (λ a. a ≡ told_of (state_at v.answers f t (place_of place)) c.args.v.0) (λ a. a ≡ Answer.NeverReached)
    (λ a told. told ∙ never_reached v.ty v.proper v.answers f place c.args.v.0 table.layout t table.is_layout shape none) c.told_at.ensures
