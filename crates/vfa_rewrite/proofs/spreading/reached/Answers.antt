use Rattle.std.proofs.Common.{◌≡◌, ◌<◌, ◌≤◌, ◌+◌, length, replicate, [], true, false, refl, sym, ap, subst, ◌∙◌, arith}
use Rattle.std.proofs.lemmas.Option.{slice_get_read}
use Rattle.vfa_ir.specs.Walks.{successors}
use Rattle.vfa_cfg.proofs.Marks.{none_is_past}
use Rattle.vfa_rewrite.specs.Marks.{Reached, first}
use Rattle.vfa_rewrite.specs.Spread.{Spread, is_marked, spread_to, spread_over}
use Rattle.vfa_rewrite.proofs.Reaching.{left_of, left_in, marks_are, reaches_next, targets_within}
use Rattle.vfa_rewrite.proofs.SpreadLaws.{IsSpread, first_found, first_marked, goes_further, keeps_marks, listed_below}
use Rattle.vfa_rewrite.proofs.spreading.reached.Goals as goal

pub places-init : goal.places-init
places-init c =
    let f = c.args.f.now in
    let n = length f.blocks in
    let kept = c.args.kept.now in
    let within = targets_within f c.requires.within in
    let is : c.come_to.new.self ≡ spread_to (record { marks = replicate n false; order = [] }) 0 =
    c.in_ok-come_to.ensures ∙ ap (λ s. spread_to s 0) (c.in_ok-search.ensures ∙ ap (λ m. record { marks = replicate m false; order = [] }) c.requires.count) in
    let start = c.requires.within.entry in
    record {
      entry = subst (λ s. is_marked s 0 ≡ true) (sym is)
          (first_marked (successors f) (left_of kept) n within (λ b. b < n) start (λ b k to of h l. within b k to h) start);
      inside = subst (λ s. IsSpread (successors f) (left_of kept) n (λ b. b < n) s 0) (sym is)
          (first_found (successors f) (left_of kept) n within (λ b. b < n) start (λ b k to of h l. within b k to h) start);
      exact = λ found are. subst (λ s. IsSpread (successors f) (left_of kept) n (Reached f found) s 0) (sym is)
          (first_found (successors f) (left_of kept) n within (Reached f found) first (reaches_next f c.requires.within kept c.requires.count found are) start);
    }

pub returns-in_default : goal.returns-in_default
returns-in_default c found are b =
    let past : length c.places.search.order ≤ c.places.place = none_is_past c.places.search.order c.places.place c.in_default.ensures in
    let known = marks_are c.args.f.now c.requires.within c.args.kept.now c.requires.count found are c.places.search c.places.place (c.places.invariant.exact found are) past c.places.invariant.entry b in
    subst (λ (s : Spread). (is_marked s b ≡ true → Reached c.args.f.now found b) × (Reached c.args.f.now found b → is_marked s b ≡ true)) (sym c.search-in-places.view_is) known

pub bounds-kept-b : goal.bounds-kept-b
bounds-kept-b c =
    let inside = c.places.invariant.inside in
    let below = inside.sound c.in-Some.b (inside.marked c.places.place c.in-Some.b (sym c.in-Some.ensures)) in
    omega (arith, below, c.requires.count)

pub places-preserved : goal.places-preserved
places-preserved c =
    let f = c.args.f.now in
    let n = length f.blocks in
    let kept = c.args.kept.now in
    let b = c.in-Some.b in
    let s = c.places.search in
    let within = targets_within f c.requires.within in
    let there = sym c.in-Some.ensures in
    let inside = c.places.invariant.inside in
    let below = inside.sound b (inside.marked c.places.place b there) in
    let room : b < length kept = omega (arith, below, c.requires.count) in
    let stands = slice_get_read kept (length kept) b c.index-kept-b.result refl room c.index-kept-b.is in
    let left : c.as_slice.result.now ≡ left_of kept b = c.as_slice.ensures.value ∙ ap (λ x. x.left.items) (sym c.index-kept-b.is) ∙ sym (left_in kept b c.index-kept-b.result stands) in
    let is : c.follow_all.new.self ≡ spread_over (successors f b) (left_of kept b) s (length (left_of kept b)) =
    c.in_ok-follow_all.ensures ∙ ap (λ l. spread_over (successors f b) l s (length l)) left in
    let start = c.requires.within.entry in
    record {
      entry = subst (λ s. is_marked s 0 ≡ true) (sym is)
          (keeps_marks (successors f) (left_of kept) n within (λ b. b < n) start (λ b k to of h l. within b k to h) s c.places.place b inside there 0 c.places.invariant.entry);
      inside = subst (λ s. IsSpread (successors f) (left_of kept) n (λ b. b < n) s (c.places.place + 1)) (sym is)
          (goes_further (successors f) (left_of kept) n within (λ b. b < n) start (λ b k to of h l. within b k to h) s c.places.place b inside there);
      exact = λ found are. subst (λ s. IsSpread (successors f) (left_of kept) n (Reached f found) s (c.places.place + 1)) (sym is)
          (goes_further (successors f) (left_of kept) n within (Reached f found) first (reaches_next f c.requires.within kept c.requires.count found are) s c.places.place b
          (c.places.invariant.exact found are) there);
    }

pub returns : goal.returns
returns c found are b =
    let f = c.args.f.now in
    let kept = c.args.kept.now in
    let within = targets_within f c.requires.within in
    let start = c.requires.within.entry in
    let below = listed_below (successors f) (left_of kept) (length f.blocks) within (λ b. b < length f.blocks) start (λ b k to of h l. within b k to h) c.places.search c.places.place c.places.invariant.inside in
    let past : length c.places.search.order ≤ c.places.place = omega (arith, below, c.requires.count, c.places-test.false, c.places.auto.place-end) in
    let known = marks_are f c.requires.within kept c.requires.count found are c.places.search c.places.place (c.places.invariant.exact found are) past c.places.invariant.entry b in
    subst (λ (s : Spread). (is_marked s b ≡ true → Reached f found b) × (Reached f found b → is_marked s b ≡ true)) (sym c.search-2.view_is) known
