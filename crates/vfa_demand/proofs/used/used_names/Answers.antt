use Rattle.std.proofs.Common.{◌∙◌, ℕ, List, subst, sym}
use Rattle.vfa_ir.specs.declared.functions.Function.{Function}
use Rattle.vfa_mean.proofs.KeptLoops.{ok_weaker}
use Rattle.vfa_demand.specs.Behind.{AreNamesBehind}
use Rattle.vfa_demand.specs.Used.{must_in}
use Rattle.vfa_demand.proofs.UsedNames.{first_within, leads_within, found_used}
use Rattle.vfa_demand.proofs.used.used_names.Goals as goal

pub led_to-requires : goal.led_to-requires
led_to-requires c =
    let f : Function = c.args.f.now in
    let must = must_in c.args.must.now in
    let behind : List (List ℕ) = c.as_slice-2.result.now in
    let are : AreNamesBehind f behind = subst (AreNamesBehind f) (sym c.as_slice-2.ensures.value) c.in_ok-behind.ensures in
    record {
      first = first_within f must behind are c.requires c.as_slice.result.now (c.as_slice.ensures.value ∙ c.in_ok-needed.ensures);
      leads = leads_within f must behind are c.requires;
    }

pub returns-clause-used : goal.returns-clause-used
returns-clause-used c =
    let f : Function = c.args.f.now in
    let must = must_in c.args.must.now in
    let behind : List (List ℕ) = c.as_slice-2.result.now in
    let are : AreNamesBehind f behind = subst (AreNamesBehind f) (sym c.as_slice-2.ensures.value) c.in_ok-behind.ensures in
    ok_weaker _ _ c.led_to.result
    (λ marks found. found_used f must behind are c.requires c.as_slice.result.now marks.items (c.as_slice.ensures.value ∙ c.in_ok-needed.ensures) found)
    c.led_to.ensures.exact
