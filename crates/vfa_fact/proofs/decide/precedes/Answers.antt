use Rattle.std.proofs.Common.{◌≡◌, ℕ, refl}
use Rattle.vfa_fact.specs.declared.fact.Fact.{Fact}
use Rattle.vfa_fact.specs.declared.order.Order.{Order}
use Rattle.vfa_fact.specs.Order.{base_of, first_place, last_place}
use Rattle.vfa_fact.specs.Views.{in_fact}
use Rattle.vfa_fact.proofs.Deciding.{Stand, before_yes, before_no, before_open}
use Rattle.vfa_fact.proofs.FactMembers.{fact_width, fact_members, base_fits}
use Rattle.vfa_fact.proofs.decide.precedes.Goals as goal

stand : {W : ℕ} (order : Order) (a b : Fact W) (fa la fb lb : ℕ) → fa ≡ first_place W (base_of W order) (in_fact W a) → la ≡ last_place W (base_of W order) (in_fact W a) →
    fb ≡ first_place W (base_of W order) (in_fact W b) → lb ≡ last_place W (base_of W order) (in_fact W b) →
    Stand W (base_of W order) (in_fact W a) (in_fact W b) fa la fb lb
stand {W} order a b fa la fb lb efa ela efb elb = record {
  base_fits = base_fits W order (fact_width a);
  members = fact_members a b;
  fa_is = efa;
  la_is = ela;
  fb_is = efb;
  lb_is = elb;
}

pub returns-then-last_of_a-first_of_b : goal.returns-then-last_of_a-first_of_b
returns-then-last_of_a-first_of_b g c =
    let w = g.row.W in let a = c.args.a.now in let b = c.args.b.now in
    before_yes w (base_of w c.args.order) (in_fact w a) (in_fact w b) _ _ _ _
    (stand c.args.order a b (first_place w (base_of w c.args.order) (in_fact w a)) c.last_place_of-last_of_a.result c.first_place_of-first_of_b.result (last_place w (base_of w c.args.order) (in_fact w b))
    refl c.last_place_of-last_of_a.ensures.place c.first_place_of-first_of_b.ensures.place refl)
    c.if-last_of_a-first_of_b.true

pub returns-then-last_of_b-first_of_a : goal.returns-then-last_of_b-first_of_a
returns-then-last_of_b-first_of_a g c =
    let w = g.row.W in let a = c.args.a.now in let b = c.args.b.now in
    before_no w (base_of w c.args.order) (in_fact w a) (in_fact w b) _ _ _ _
    (stand c.args.order a b c.first_place_of-first_of_a.result c.last_place_of-last_of_a.result c.first_place_of-first_of_b.result c.last_place_of-last_of_b.result
    c.first_place_of-first_of_a.ensures.place c.last_place_of-last_of_a.ensures.place c.first_place_of-first_of_b.ensures.place c.last_place_of-last_of_b.ensures.place)
    c.if-last_of_b-first_of_a.true

pub returns : goal.returns
returns g c =
    let w = g.row.W in let a = c.args.a.now in let b = c.args.b.now in
    before_open w (base_of w c.args.order) (in_fact w a) (in_fact w b) _ _ _ _
    (stand c.args.order a b c.first_place_of-first_of_a.result c.last_place_of-last_of_a.result c.first_place_of-first_of_b.result c.last_place_of-last_of_b.result
    c.first_place_of-first_of_a.ensures.place c.last_place_of-last_of_a.ensures.place c.first_place_of-first_of_b.ensures.place c.last_place_of-last_of_b.ensures.place)
    c.if-last_of_a-first_of_b.false c.if-last_of_b-first_of_a.false
