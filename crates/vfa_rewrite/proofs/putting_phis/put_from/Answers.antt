use Rattle.std.proofs.Common.{◌≡◌, ◌<◌, length, refl, subst, arith}
use Rattle.std.specs.Option.{option_map}
use Rattle.vfa_cond.specs.States.{known}
use Rattle.vfa_rewrite.specs.Putting.{ArePutFrom, put_by}
use Rattle.vfa_rewrite.proofs.EntriesPut.{one_put}
use Rattle.vfa_rewrite.proofs.putting_phis.put_from.Goals as goal

pub each-init : goal.each-init
each-init c = record { count = refl; before = λ i e below h. absurd (omega (arith, below)); rest = λ i past. refl }

pub set_entry-requires : goal.set_entry-requires
set_entry-requires c = let count = c.each.invariant.count in omega (arith, count, c.each-test.true, c.requires.count)

pub each-preserved : goal.each-preserved
each-preserved c =
    let inside : c.each.j < length c.each.all.items = let count = c.each.invariant.count in omega (arith, count, c.each-test.true, c.requires.count) in
    one_put c.args.from.0 (put_by c.args.f.now c.args.others.now (option_map (λ s. known s.now) c.args.state)) c.args.entries.now c.args.all.now.items c.each.j c.each.all.items c.set_entry.new.all.items
    c.each.invariant _ c.each-test.true inside c.put_entry-operand.result c.index.result.now c.set_entry.ensures c.index.ensures c.put_entry-operand.ensures

pub returns : goal.returns
returns c =
    let all : c.each.j ≡ length c.args.entries.now = omega (arith, c.each-test.false, c.each.auto.j-end) in
    subst (λ n. ArePutFrom c.args.from.0 (put_by c.args.f.now c.args.others.now (option_map (λ s. known s.now) c.args.state)) c.args.entries.now c.args.all.now.items n c.each.all.items) all
    c.each.invariant
