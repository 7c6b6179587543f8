-- A search that follows all edges left of each block that it finds marks exactly the blocks that are reached.
use Rattle.std.proofs.Common.{◌≡◌, ◌<◌, ◌≤◌, ◌+◌, ℕ, zero, suc, Bool, true, false, if◌then◌else◌, Option, Some, None, List, [], ◌∷◌, ◌++◌, length, replicate, refl, sym, ap, ◌∙◌, subst, inl, inr, ◌⊎◌, arith}
use Rattle.std.specs.Prelude.{slice_get, slice_index_or, slice_set}
use Rattle.std.proofs.lemmas.Bool.Decides.{eqb_tells}
use Rattle.std.proofs.lemmas.List.{length-set, length_push, get_or-set_same, get_or-set_other}
use Rattle.std.proofs.lemmas.Option.{slice_get_within, same_Some}
use Rattle.vfa_rewrite.specs.Spread.{Spread, is_marked, spread_to, spread_along, spread_over}

-- ---- lists

get_in_front : {A : Type 0} (xs : List A) (y : A) (i : ℕ) (x : A) → slice_get xs i ≡ Some x → slice_get (xs ++ (y ∷ [])) i ≡ Some x
get_in_front [] y i x h = absurd (cc)
get_in_front (z ∷ xs) y zero x h = h
get_in_front (z ∷ xs) y (suc i) x h = get_in_front xs y i x h

get_at_end : {A : Type 0} (xs : List A) (y : A) → slice_get (xs ++ (y ∷ [])) (length xs) ≡ Some y
get_at_end [] y = refl
get_at_end (z ∷ xs) y = get_at_end xs y

get_pushed : {A : Type 0} (xs : List A) (y : A) (i : ℕ) (x : A) → slice_get (xs ++ (y ∷ [])) i ≡ Some x → (slice_get xs i ≡ Some x) ⊎ (y ≡ x)
get_pushed [] y zero x h = inr (same_Some y x h)
get_pushed [] y (suc i) x h = absurd (cc)
get_pushed (z ∷ xs) y zero x h = inl h
get_pushed (z ∷ xs) y (suc i) x h = get_pushed xs y i x h

-- an element that stood before the new one
get_before : {A : Type 0} (xs : List A) (y : A) (i : ℕ) (x : A) → i < length xs → slice_get (xs ++ (y ∷ [])) i ≡ Some x → slice_get xs i ≡ Some x
get_before [] y i x less h = absurd (omega (arith, less))
get_before (z ∷ xs) y zero x less h = h
get_before (z ∷ xs) y (suc i) x less h = get_before xs y i x (omega (arith, less)) h

-- how many blocks are not marked
abbrev unmarked : List Bool → ℕ
unmarked [] = 0
unmarked (true ∷ marks) = unmarked marks
unmarked (false ∷ marks) = suc (unmarked marks)

unmarked_less : (marks : List Bool) (b : ℕ) → b < length marks → slice_index_or marks b false ≡ false → unmarked (slice_set marks b true) + 1 ≡ unmarked marks
unmarked_less [] b less h = absurd (omega (arith, less))
unmarked_less (true ∷ marks) zero less h = absurd (cc)
unmarked_less (false ∷ marks) zero less h = omega arith
unmarked_less (true ∷ marks) (suc b) less h = unmarked_less marks b (omega (arith, less)) h
unmarked_less (false ∷ marks) (suc b) less h = let rest = unmarked_less marks b (omega (arith, less)) h in omega (arith, rest)

none_marked : (n b : ℕ) → slice_index_or (replicate n false) b false ≡ false
none_marked zero b = refl
none_marked (suc n) zero = refl
none_marked (suc n) (suc b) = none_marked n b

all_unmarked : (n : ℕ) → unmarked (replicate n false) ≡ n
all_unmarked zero = refl
all_unmarked (suc n) = ap suc (all_unmarked n)

replicated : (n : ℕ) → length (replicate n false) ≡ n
replicated zero = refl
replicated (suc n) = ap suc (replicated n)

pub record IsListed (order : List ℕ) (b : ℕ) : Type 0 where
  pub place : ℕ
  pub there : slice_get order place ≡ Some b

-- ---- the marks stay as many

pub spread_count : (s : Spread) (to : ℕ) → length (spread_to s to).marks ≡ length s.marks
spread_count s to = by (is_marked s to)
  where
    by : (m : Bool) → length (if m then s else record { marks = slice_set s.marks to true; order = s.order ++ (to ∷ []) }).marks ≡ length s.marks
    by true = refl
    by false = length-set s.marks to true

pub along_count : (targets : List ℕ) (left : List Bool) (s : Spread) (k : ℕ) → length (spread_along targets left s k).marks ≡ length s.marks
along_count targets left s k = by (slice_index_or left k false) (slice_get targets k)
  where
    by : (l : Bool) (o : Option ℕ) → length (if l then elim o [ None ↦ s | Some to ↦ spread_to s to ] else s).marks ≡ length s.marks
    by false o = refl
    by true None = refl
    by true (Some to) = spread_count s to

pub over_count : (targets : List ℕ) (left : List Bool) (s : Spread) (n : ℕ) → length (spread_over targets left s n).marks ≡ length s.marks
over_count targets left s zero = refl
over_count targets left s (suc n) = along_count targets left (spread_over targets left s n) n ∙ over_count targets left s n

-- the blocks at the first `done` places of the order have been followed
pub record IsSpread (succ : ℕ → List ℕ) (left : ℕ → List Bool) (n : ℕ) (Is : ℕ → Type 0) (s : Spread) (done : ℕ) : Type 0 where
  pub count : length s.marks ≡ n
  pub total : unmarked s.marks + length s.order ≡ n
  pub sound : (b : ℕ) → is_marked s b ≡ true → Is b
  pub listed : (b : ℕ) → is_marked s b ≡ true → IsListed s.order b
  pub marked : (j b : ℕ) → slice_get s.order j ≡ Some b → is_marked s b ≡ true
  pub places : done ≤ length s.order
  pub followed : (j b k to : ℕ) → j < done → slice_get s.order j ≡ Some b → slice_get (succ b) k ≡ Some to → slice_index_or (left b) k false ≡ true → is_marked s to ≡ true

module _ (succ : ℕ → List ℕ) (left : ℕ → List Bool) (n : ℕ) (within : (b k to : ℕ) → slice_get (succ b) k ≡ Some to → to < n)
    (Is : ℕ → Type 0) (start : Is 0) (next : (b k to : ℕ) → Is b → slice_get (succ b) k ≡ Some to → slice_index_or (left b) k false ≡ true → Is to) where
  abbrev pub Spreads : Spread → ℕ → Type 0
  Spreads s done = IsSpread succ left n Is s done

  pub nothing_found : Spreads (record { marks = replicate n false; order = [] }) 0
  nothing_found = record {
    count = replicated n;
    total = let e = all_unmarked n in omega (arith, e);
    sound = λ b h. absurd (let none = none_marked n b in cc);
    listed = λ b h. absurd (let none = none_marked n b in cc);
    marked = λ j b h. absurd (cc);
    places = omega arith;
    followed = λ j b k to less h e l. absurd (omega (arith, less));
  }

  -- ---- a block is come to

  module _ (s : Spread) (to : ℕ) where
    abbrev new : Spread
    new = record { marks = slice_set s.marks to true; order = s.order ++ (to ∷ []) }

    new_here : to < length s.marks → is_marked new to ≡ true
    new_here less = get_or-set_same s.marks to true false less

    new_other : (b : ℕ) → (b ≡ to → ⊥) → is_marked new b ≡ is_marked s b
    new_other b apart = get_or-set_other s.marks to b true false apart

    new_grows : to < length s.marks → (b : ℕ) → is_marked s b ≡ true → is_marked new b ≡ true
    new_grows less b h = elim (eqb_tells b to) [
      | inl w ↦ subst (λ x. is_marked new x ≡ true) (sym w.1) (new_here less)
      | inr w ↦ new_other b w.1 ∙ h
    ]

    new_from : (b : ℕ) → is_marked new b ≡ true → (b ≡ to) ⊎ (is_marked s b ≡ true)
    new_from b h = elim (eqb_tells b to) [
      | inl w ↦ inl w.1
      | inr w ↦ inr (sym (new_other b w.1) ∙ h)
    ]

  record Comes (s s' : Spread) (to done : ℕ) : Type 0 where
    spread : Spreads s' done
    here : is_marked s' to ≡ true
    grows : (b : ℕ) → is_marked s b ≡ true → is_marked s' b ≡ true
    stays : (j b : ℕ) → slice_get s.order j ≡ Some b → slice_get s'.order j ≡ Some b

  comes : (s : Spread) (done to : ℕ) → Spreads s done → Is to → to < n → Comes s (spread_to s to) to done
  comes s done to is of less = by (is_marked s to) refl
    where
      by : (m : Bool) → is_marked s to ≡ m → Comes s (if m then s else new s to) to done
      by true e = record { spread = is; here = e; grows = λ b h. h; stays = λ j b h. h }
      by false e =
          let room : to < length s.marks = let c = is.count in omega (arith, c, less) in
          record {
            spread = record {
              count = length-set s.marks to true ∙ is.count;
              total =
                  let fewer = unmarked_less s.marks to room e in
                  let more = length_push s.order to in
                  let all = is.total in
                  omega (arith, fewer, more, all);
              sound = λ b h. elim (new_from s to b h) [ inl same ↦ subst Is (sym same) of | inr old ↦ is.sound b old ];
              listed = λ b h. elim (new_from s to b h) [
                | inl same ↦ record { place = length s.order; there = get_at_end s.order to ∙ ap Some (sym same) }
                | inr old ↦ let l = is.listed b old in record { place = l.place; there = get_in_front s.order to l.place b l.there }
              ];
              marked = λ j b h. elim (get_pushed s.order to j b h) [
                | inl old ↦ new_grows s to room b (is.marked j b old)
                | inr same ↦ subst (λ x. is_marked (new s to) x ≡ true) same (new_here s to room)
              ];
              places = let p = is.places in let more = length_push s.order to in omega (arith, p, more);
              followed = λ j b k x at h edge l.
                  new_grows s to room x (is.followed j b k x at (get_before s.order to j b (let p = is.places in omega (arith, p, at)) h) edge l);
            };
            here = new_here s to room;
            grows = new_grows s to room;
            stays = λ j b h. get_in_front s.order to j b h;
          }

  pub first_found : 0 < n → Spreads (spread_to (record { marks = replicate n false; order = [] }) 0) 0
  first_found less = (comes (record { marks = replicate n false; order = [] }) 0 0 nothing_found start less).spread

  pub first_marked : 0 < n → is_marked (spread_to (record { marks = replicate n false; order = [] }) 0) 0 ≡ true
  first_marked less = (comes (record { marks = replicate n false; order = [] }) 0 0 nothing_found start less).here

  -- ---- the edges of a block are followed

  record Follows (s s' : Spread) (b m done : ℕ) : Type 0 where
    spread : Spreads s' done
    grows : (x : ℕ) → is_marked s x ≡ true → is_marked s' x ≡ true
    stays : (j x : ℕ) → slice_get s.order j ≡ Some x → slice_get s'.order j ≡ Some x
    edges : (k to : ℕ) → k < m → slice_get (succ b) k ≡ Some to → slice_index_or (left b) k false ≡ true → is_marked s' to ≡ true

  below_next : (k m : ℕ) → k < suc m → (k < m) ⊎ (k ≡ m)
  below_next zero zero h = inr refl
  below_next zero (suc m) h = inl (omega arith)
  below_next (suc k) zero h = absurd (omega (arith, h))
  below_next (suc k) (suc m) h = elim (below_next k m (omega (arith, h))) [ inl less ↦ inl (omega (arith, less)) | inr same ↦ inr (ap suc same) ]

  module _ (b : ℕ) (of : Is b) where
    follows_one : (s s' : Spread) (m done : ℕ) → Follows s s' b m done → Follows s (spread_along (succ b) (left b) s' m) b (suc m) done
    follows_one s s' m done so_far = by (slice_index_or (left b) m false) refl (slice_get (succ b) m) refl
      where
        unchanged : ((to : ℕ) → slice_get (succ b) m ≡ Some to → slice_index_or (left b) m false ≡ true → ⊥) → Follows s s' b (suc m) done
        unchanged none = record {
          spread = so_far.spread;
          grows = so_far.grows;
          stays = so_far.stays;
          edges = λ k to less e l. elim (below_next k m less) [
            | inl before ↦ so_far.edges k to before e l
            | inr same ↦ absurd (none to (subst (λ x. slice_get (succ b) x ≡ Some to) same e) (subst (λ x. slice_index_or (left b) x false ≡ true) same l))
          ];
        }

        by : (t : Bool) → slice_index_or (left b) m false ≡ t → (o : Option ℕ) → slice_get (succ b) m ≡ o →
            Follows s (if t then elim o [ None ↦ s' | Some to ↦ spread_to s' to ] else s') b (suc m) done
        by false h o e = unchanged (λ to there l. absurd (cc))
        by true h None e = unchanged (λ to there l. absurd (cc))
        by true h (Some x) e =
            let come = comes s' done x so_far.spread (next b m x of e h) (within b m x e) in
            record {
              spread = come.spread;
              grows = λ y g. come.grows y (so_far.grows y g);
              stays = λ j y g. come.stays j y (so_far.stays j y g);
              edges = λ k to less there l. elim (below_next k m less) [
                | inl before ↦ come.grows to (so_far.edges k to before there l)
                | inr same ↦
                    let at : slice_get (succ b) m ≡ Some to = subst (λ y. slice_get (succ b) y ≡ Some to) same there in
                    subst (λ y. is_marked (spread_to s' x) y ≡ true) (same_Some x to (sym e ∙ at)) come.here
              ];
            }

    follows : (s : Spread) (m done : ℕ) → Spreads s done → Follows s (spread_over (succ b) (left b) s m) b m done
    follows s zero done is = record { spread = is; grows = λ x h. h; stays = λ j x h. h; edges = λ k to less e l. absurd (omega (arith, less)) }
    follows s (suc m) done is = follows_one s (spread_over (succ b) (left b) s m) m done (follows s m done is)

  past_left : (marks : List Bool) (k : ℕ) → slice_index_or marks k false ≡ true → k < length marks
  past_left [] k h = absurd (cc)
  past_left (m ∷ marks) zero h = omega arith
  past_left (m ∷ marks) (suc k) h = let rest = past_left marks k h in omega (arith, rest)

  -- the block at the next place is followed
  pub goes_further : (s : Spread) (done b : ℕ) → Spreads s done → slice_get s.order done ≡ Some b →
      Spreads (spread_over (succ b) (left b) s (length (left b))) (done + 1)
  goes_further s done b is there =
      let over = follows b (is.sound b (is.marked done b there)) s (length (left b)) done is in
      let all = over.spread in
      record {
        count = all.count;
        total = all.total;
        sound = all.sound;
        listed = all.listed;
        marked = all.marked;
        places = let inside = slice_get_within (spread_over (succ b) (left b) s (length (left b))).order done b (over.stays done b there) in omega (arith, inside);
        followed = λ j x k to at h e l. elim (below_next j done (omega (arith, at))) [
          | inl before ↦ all.followed j x k to before h e l
          | inr same ↦
              let here : slice_get (spread_over (succ b) (left b) s (length (left b))).order done ≡ Some x =
              subst (λ y. slice_get (spread_over (succ b) (left b) s (length (left b))).order y ≡ Some x) same h in
              let is_b : b ≡ x = same_Some b x (sym (over.stays done b there) ∙ here) in
              over.edges k to (past_left (left b) k (subst (λ y. slice_index_or (left y) k false ≡ true) (sym is_b) l))
              (subst (λ y. slice_get (succ y) k ≡ Some to) (sym is_b) e) (subst (λ y. slice_index_or (left y) k false ≡ true) (sym is_b) l)
        ];
      }

  pub keeps_marks : (s : Spread) (done b : ℕ) → Spreads s done → slice_get s.order done ≡ Some b → (x : ℕ) → is_marked s x ≡ true →
      is_marked (spread_over (succ b) (left b) s (length (left b))) x ≡ true
  keeps_marks s done b is there x h = (follows b (is.sound b (is.marked done b there)) s (length (left b)) done is).grows x h

  -- ---- at the end

  pub listed_below : (s : Spread) (done : ℕ) → Spreads s done → length s.order ≤ n
  listed_below s done is = let t = is.total in omega (arith, t)

  pub closed : (s : Spread) (done : ℕ) → Spreads s done → length s.order ≤ done → (b k to : ℕ) → is_marked s b ≡ true → slice_get (succ b) k ≡ Some to →
      slice_index_or (left b) k false ≡ true → is_marked s to ≡ true
  closed s done is all b k to h e l =
      let at = is.listed b h in
      let inside = slice_get_within s.order at.place b at.there in
      is.followed at.place b k to (omega (arith, inside, all)) at.there e l
