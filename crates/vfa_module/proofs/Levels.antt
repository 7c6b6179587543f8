-- The brace that closes a define is the first at which its braces are level.
use Rattle.std.proofs.Common.{inl, inr, ◌≡◌, ◌⊎◌, ◌↔◌, ℕ, zero, suc, ◌+◌, ◌-◌, ◌<◌, ◌≤◌, ◌==◌, ◌&&◌, ◌||◌, Bool, true, false, cond, List, [], ◌∷◌, take, drop, Option, Some, None, IsSomeAnd, slice_get, refl, sym, ap, arith, eqb-true, ◌∙◌, subst}
use Rattle.std.proofs.lemmas.Bool.{cases_order, and_parts, true≢false}
use Rattle.std.proofs.lemmas.List.{drop-take}
use Rattle.std.proofs.lemmas.List.Sums.{sum_by-cons}
use Rattle.std.specs.Str.{byte}
use Rattle.vfa_ir.specs.declared.tokens.Token.{Token}
use Rattle.vfa_module.specs.Defines.{IsFirst, IsOutside, CanOpenBody, AreLevel, Closes, bracket_count, global_count, tokens_between}
use Rattle.vfa_module.specs.Split as spec

abbrev pub one_if : Bool → ℕ
one_if b = cond b 1 0

cases_false : (x : Bool) → (x && true) ≡ false → x ≡ false
cases_false true e = e
cases_false false e = refl

pub positive : (n : ℕ) → (n == 0) ≡ false → 0 < n
positive zero e = absurd (cc)
positive (suc n) e = omega arith

count_cons :
    (text : List ℕ) (b : ℕ) (t : Token) (ts : List Token) →
    bracket_count text b (t ∷ ts) ≡ one_if (spec.first_byte text t == b) + bracket_count text b ts
count_cons text b t ts = sum_by-cons (λ u. one_if (spec.first_byte text u == b)) t ts

global_cons : (t : Token) (ts : List Token) → global_count (t ∷ ts) ≡ one_if (spec.is_global t.kind) + global_count ts
global_cons t ts = sum_by-cons (λ u. one_if (spec.is_global u.kind)) t ts

-- at most one place is the first
first_unique : (P : ℕ → Type 0) (m n : ℕ) → IsFirst P m → IsFirst P n → m ≡ n
first_unique P m n a b =
    elim (cases_order m n) [
      | inl same ↦ same
      | inr (inl less) ↦ absurd (b.none_before m less a.has)
      | inr (inr more) ↦ absurd (a.none_before n more b.has)
    ]

-- the first place of a property, one place later
first_later :
    (P Q : ℕ → Type 0) (n : ℕ) → ¬ P 0 → ((k : ℕ) → P (suc k) → Q k) → ((k : ℕ) → Q k → P (suc k)) → IsFirst Q n →
    IsFirst P (suc n)
first_later P Q n not_here back on first = record { has = on n first.has; none_before = none }
  where
    none : (q : ℕ) → q < suc n → ¬ P q
    none zero less = not_here
    none (suc q) less = λ p. first.none_before q (omega arith) (back q p)

-- The body

-- the braces are level after a place of the body, where so many inner ones are unclosed before
abbrev LevelFrom : List ℕ → ℕ → List Token → ℕ → Type 0
LevelFrom text braces ts place =
    braces + 1 + bracket_count text (byte "{") (take (suc place) ts) ≡ bracket_count text (byte "}") (take (suc place) ts)

record BodyFound (text : List ℕ) (braces : ℕ) (ts : List Token) (t : Token) : Type 0 where
  place : ℕ
  first : IsFirst (LevelFrom text braces ts) place
  token : slice_get ts place ≡ Some t

abbrev Body : List ℕ → ℕ → List Token → Option Token → Type 0
Body text braces ts None = (place : ℕ) → ¬ LevelFrom text braces ts place
Body text braces ts (Some t) = BodyFound text braces ts t

-- one token of the body: the numbers of braces, by what it is
body_counts :
    (text : List ℕ) (braces b o c : ℕ) → spec.closes_body braces b ≡ false →
    ((braces + 1 + (one_if (b == byte "{") + o) ≡ one_if (b == byte "}") + c) → spec.braces_after braces b + 1 + o ≡ c)
    × ((spec.braces_after braces b + 1 + o ≡ c) → braces + 1 + (one_if (b == byte "{") + o) ≡ one_if (b == byte "}") + c)
unfolding spec.closes_body
body_counts text braces b o c unclosed = go (b == byte "{") (b == byte "}") refl refl unclosed
  where
    go :
        (u v : Bool) → (b == byte "{") ≡ u → (b == byte "}") ≡ v → (braces == 0 && v) ≡ false →
        ((braces + 1 + (one_if u + o) ≡ one_if v + c) → cond u (braces + 1) (cond v (braces - 1) braces) + 1 + o ≡ c)
        × ((cond u (braces + 1) (cond v (braces - 1) braces) + 1 + o ≡ c) → braces + 1 + (one_if u + o) ≡ one_if v + c)
    go true true e f unclosed = let one = eqb-true b (byte "{") e in let other = eqb-true b (byte "}") f in absurd (omega arith)
    go true false e f unclosed = (λ h. omega arith, λ h. omega arith)
    go false true e f unclosed =
        let some : braces == 0 ≡ false = (cases_false (braces == 0) unclosed) in
        let more : 0 < braces = positive braces some in
        (λ h. omega arith, λ h. omega arith)
    go false false e f unclosed = (λ h. omega arith, λ h. omega arith)

body_step :
    (text : List ℕ) (braces : ℕ) (t : Token) (rest : List Token) → spec.closes_body braces (spec.first_byte text t) ≡ false →
    Body text (spec.braces_after braces (spec.first_byte text t)) rest
    (spec.closing_of_body text (spec.braces_after braces (spec.first_byte text t)) rest) →
    Body text braces (t ∷ rest)
    (spec.closing_of_body text (spec.braces_after braces (spec.first_byte text t)) rest)
body_step text braces t rest unclosed left =
    by_answer (spec.closing_of_body text (spec.braces_after braces (spec.first_byte text t)) rest) left
  where
    counts : (k : ℕ) →
        (LevelFrom text braces (t ∷ rest) (suc k) → LevelFrom text (spec.braces_after braces (spec.first_byte text t)) rest k)
        × (LevelFrom text (spec.braces_after braces (spec.first_byte text t)) rest k → LevelFrom text braces (t ∷ rest) (suc k))
    counts k =
        let opened = count_cons text (byte "{") t (take (suc k) rest) in
        let closed = count_cons text (byte "}") t (take (suc k) rest) in
        let both =
        body_counts text braces (spec.first_byte text t) (bracket_count text (byte "{") (take (suc k) rest))
        (bracket_count text (byte "}") (take (suc k) rest)) unclosed in
        (λ h. both.0 (rw (opened, closed) at h), λ h. rw (opened, closed) (both.1 h))

    not_here : ¬ LevelFrom text braces (t ∷ rest) 0
    not_here h = let zero_at : braces + 1 + (one_if (spec.first_byte text t == byte "{") + 0) ≡ one_if (spec.first_byte text t == byte "}") + 0 = omega arith in let e = (body_counts text braces (spec.first_byte text t) 0 0 unclosed).0 zero_at in omega arith

    nowhere :
        ((place : ℕ) → ¬ LevelFrom text (spec.braces_after braces (spec.first_byte text t)) rest place) → (place : ℕ) →
        ¬ LevelFrom text braces (t ∷ rest) place
    nowhere none zero = not_here
    nowhere none (suc k) = λ h. none k ((counts k).0 h)

    by_answer :
        (o : Option Token) → Body text (spec.braces_after braces (spec.first_byte text t)) rest o → Body text braces (t ∷ rest) o
    by_answer None none = nowhere none
    by_answer (Some u) found =
        record {
          place = suc found.place;
          first = first_later (LevelFrom text braces (t ∷ rest)) (LevelFrom text (spec.braces_after braces (spec.first_byte text t)) rest)
              found.place not_here (λ k. (counts k).0) (λ k. (counts k).1) found.first;
          token = found.token;
        }

body_here :
    (text : List ℕ) (braces : ℕ) (t : Token) (rest : List Token) → spec.closes_body braces (spec.first_byte text t) ≡ true →
    BodyFound text braces (t ∷ rest) t
unfolding spec.closes_body
body_here text braces t rest closed =
    record { place = 0; first = record { has = level; none_before = λ q less. absurd (omega arith) }; token = refl }
  where
    level : LevelFrom text braces (t ∷ rest) 0
    level =
        let b : ℕ = spec.first_byte text t in
        let parts = and_parts (braces == 0) (spec.first_byte text t == byte "}") closed in
        let none : braces ≡ 0 = eqb-true braces 0 parts.0 in
        let is : spec.first_byte text t ≡ byte "}" = eqb-true (spec.first_byte text t) (byte "}") parts.1 in
        rw (is, none) refl

body : (text : List ℕ) (braces : ℕ) (ts : List Token) → Body text braces ts (spec.closing_of_body text braces ts)
body text braces [] = none
  where
    none : (place : ℕ) → ¬ LevelFrom text braces [] place
    none place h = omega arith
body text braces (t ∷ rest) =
    by_test (spec.closes_body braces (spec.first_byte text t)) refl
    (body text (spec.braces_after braces (spec.first_byte text t)) rest)
  where
    by_test :
        (b : Bool) → spec.closes_body braces (spec.first_byte text t) ≡ b →
        Body text (spec.braces_after braces (spec.first_byte text t)) rest
        (spec.closing_of_body text (spec.braces_after braces (spec.first_byte text t)) rest) →
        Body text braces (t ∷ rest)
        (cond b (Some t) (spec.closing_of_body text (spec.braces_after braces (spec.first_byte text t)) rest))
    by_test true closed left = body_here text braces t rest closed
    by_test false unclosed left = body_step text braces t rest unclosed left

-- The header

-- a place of the header can unclosed the body, where it is already named or not, inside so many parentheses
record OpensFrom (text : List ℕ) (named : Bool) (parens : ℕ) (ts : List Token) (place : ℕ) : Type 0 where
  brace : IsSomeAnd (slice_get ts place) (λ t. spec.first_byte text t ≡ byte "{")
  name : 0 < one_if named + global_count (take place ts)
  all : parens + bracket_count text (byte "(") (take place ts) ≤ bracket_count text (byte ")") (take place ts)
  outside : IsOutside text ts place

record HeaderFound (text : List ℕ) (named : Bool) (parens : ℕ) (ts : List Token) (o : Option Token) : Type 0 where
  place : ℕ
  first : IsFirst (OpensFrom text named parens ts) place
  same : o ≡ spec.closing_of_body text 0 (drop (suc place) ts)

record HeaderEnds (text : List ℕ) (named : Bool) (parens : ℕ) (ts : List Token) (o : Option Token) : Type 0 where
  none : (place : ℕ) → ¬ OpensFrom text named parens ts place
  same : o ≡ None

abbrev Header : List ℕ → Bool → ℕ → List Token → Option Token → Type 0
Header text named parens ts o = HeaderFound text named parens ts o ⊎ HeaderEnds text named parens ts o

-- one token of the header: the numbers of parentheses, by what it is
paren_counts :
    (parens b o c : ℕ) → o ≤ c →
    (spec.parens_after parens b + o ≤ c → (parens + (one_if (b == byte "(") + o) ≤ one_if (b == byte ")") + c) × (one_if (b == byte "(") + o ≤ one_if (b == byte ")") + c))
    × (parens + (one_if (b == byte "(") + o) ≤ one_if (b == byte ")") + c → one_if (b == byte "(") + o ≤ one_if (b == byte ")") + c → spec.parens_after parens b + o ≤ c)
paren_counts parens b o c sooner = go (b == byte "(") (b == byte ")") refl refl
  where
    go :
        (u v : Bool) → (b == byte "(") ≡ u → (b == byte ")") ≡ v →
        (cond u (parens + 1) (cond v (parens - 1) parens) + o ≤ c → (parens + (one_if u + o) ≤ one_if v + c) × (one_if u + o ≤ one_if v + c))
        × (parens + (one_if u + o) ≤ one_if v + c → one_if u + o ≤ one_if v + c → cond u (parens + 1) (cond v (parens - 1) parens) + o ≤ c)
    go true true e f = let one = eqb-true b (byte "(") e in let other = eqb-true b (byte ")") f in absurd (omega arith)
    go true false e f = (λ h. (omega arith, omega arith), λ h k. omega arith)
    go false true e f = (λ h. (omega arith, omega arith), λ h k. omega arith)
    go false false e f = (λ h. (omega arith, omega arith), λ h k. omega arith)

name_counts : (named is : Bool) (n : ℕ) → (0 < one_if (named || is) + n → 0 < one_if named + (one_if is + n)) × (0 < one_if named + (one_if is + n) → 0 < one_if (named || is) + n)
name_counts true is n = (λ h. omega arith, λ h. omega arith)
name_counts false is n = (λ h. omega arith, λ h. omega arith)

-- what can unclosed the body after a token can unclosed it before, and the other way round
opens_sooner :
    (text : List ℕ) (named : Bool) (parens : ℕ) (t : Token) (rest : List Token) (k : ℕ) →
    OpensFrom text (named || spec.is_global t.kind) (spec.parens_after parens (spec.first_byte text t)) rest k →
    OpensFrom text named parens (t ∷ rest) (suc k)
opens_sooner text named parens t rest k o =
    let opened = count_cons text (byte "(") t (take k rest) in
    let closed = count_cons text (byte ")") t (take k rest) in
    let counts = (paren_counts parens (spec.first_byte text t) _ _ (o.outside 0)).0 o.all in
    record {
      brace = o.brace;
      name = rw (global_cons t (take k rest)) ((name_counts named (spec.is_global t.kind) _).0 o.name);
      all = rw (opened, closed) counts.0;
      outside = outside (rw (opened, closed) counts.1);
    }
  where
    outside :
        bracket_count text (byte "(") (take (suc k) (t ∷ rest)) ≤ bracket_count text (byte ")") (take (suc k) (t ∷ rest)) →
        IsOutside text (t ∷ rest) (suc k)
    outside h zero = h
    outside h (suc q) = o.outside q

opens_later :
    (text : List ℕ) (named : Bool) (parens : ℕ) (t : Token) (rest : List Token) (k : ℕ) →
    OpensFrom text named parens (t ∷ rest) (suc k) →
    OpensFrom text (named || spec.is_global t.kind) (spec.parens_after parens (spec.first_byte text t)) rest k
opens_later text named parens t rest k o =
    let opened = count_cons text (byte "(") t (take k rest) in
    let closed = count_cons text (byte ")") t (take k rest) in
    let all = o.all in
    let here = o.outside 0 in
    record {
      brace = o.brace;
      name =
          (name_counts named (spec.is_global t.kind) (global_count (take k rest))).1
          (rw (global_cons t (take k rest)) at o.name);
      all =
          (paren_counts parens (spec.first_byte text t) (bracket_count text (byte "(") (take k rest))
          (bracket_count text (byte ")") (take k rest)) (o.outside 1)).1
          (rw (opened, closed) at all) (rw (opened, closed) at here);
      outside = λ q. o.outside (suc q);
    }

opens_here :
    (text : List ℕ) (named : Bool) (parens : ℕ) (t : Token) (rest : List Token) →
    spec.opens_body named parens (spec.first_byte text t) ≡ true → OpensFrom text named parens (t ∷ rest) 0
unfolding spec.opens_body
opens_here text named parens t rest h =
    let parts = and_parts (named && parens == 0) (spec.first_byte text t == byte "{") h in
    let more = and_parts named (parens == 0) parts.0 in
    let none : parens ≡ 0 = eqb-true parens 0 more.1 in
    record {
      brace = eqb-true (spec.first_byte text t) (byte "{") parts.1;
      name = (rw more.0 (omega arith));
      all = omega arith;
      outside = λ q. none_between q;
    }
  where
    none_between : (q : ℕ) → bracket_count text (byte "(") (tokens_between (t ∷ rest) q 0) ≤ bracket_count text (byte ")") (tokens_between (t ∷ rest) q 0)
    none_between zero = omega arith
    none_between (suc q) = omega arith

opens_not_here :
    (text : List ℕ) (named : Bool) (parens : ℕ) (t : Token) (rest : List Token) →
    spec.opens_body named parens (spec.first_byte text t) ≡ false → ¬ OpensFrom text named parens (t ∷ rest) 0
unfolding spec.opens_body
opens_not_here text named parens t rest h o =
    let none : parens ≡ 0 = (let all = o.all in omega arith) in
    let is : spec.first_byte text t ≡ byte "{" = o.brace in
    let name : named ≡ true = named_is named o.name in
    true≢false (sym (rw (name, none, is) refl) ∙ h)
  where
    named_is : (n : Bool) → 0 < one_if n + 0 → n ≡ true
    named_is true h = refl
    named_is false h = absurd (omega arith)

header :
    (text : List ℕ) (named : Bool) (parens : ℕ) (ts : List Token) →
    Header text named parens ts (spec.closing_of_define text named parens ts)
header text named parens [] = inr (record { none = λ place o. nothing place o.brace; same = refl })
  where
    nothing : (place : ℕ) → ¬ IsSomeAnd (slice_get {X = Token} [] place) (λ t. spec.first_byte text t ≡ byte "{")
    nothing place h = h
header text named parens (t ∷ rest) =
    by_test (spec.opens_body named parens (spec.first_byte text t)) refl
    (header text (named || spec.is_global t.kind) (spec.parens_after parens (spec.first_byte text t)) rest)
  where
    by_header :
        (o : Option Token) → spec.opens_body named parens (spec.first_byte text t) ≡ false →
        Header text (named || spec.is_global t.kind) (spec.parens_after parens (spec.first_byte text t)) rest o →
        Header text named parens (t ∷ rest) o
    by_header o closed (inl found) =
        inl (record {
          place = suc found.place;
          first =
              first_later _ _ found.place (opens_not_here text named parens t rest closed)
              (opens_later text named parens t rest) (opens_sooner text named parens t rest) found.first;
          same = found.same;
        })
    by_header o closed (inr ends) = inr (record { none = nowhere ends; same = ends.same })
      where
        nowhere :
            HeaderEnds text (named || spec.is_global t.kind) (spec.parens_after parens (spec.first_byte text t)) rest o →
            (place : ℕ) → ¬ OpensFrom text named parens (t ∷ rest) place
        nowhere ends zero = opens_not_here text named parens t rest closed
        nowhere ends (suc k) = λ h. ends.none k (opens_later text named parens t rest k h)

    by_test :
        (b : Bool) → spec.opens_body named parens (spec.first_byte text t) ≡ b →
        Header text (named || spec.is_global t.kind) (spec.parens_after parens (spec.first_byte text t)) rest
        (spec.closing_of_define text (named || spec.is_global t.kind) (spec.parens_after parens (spec.first_byte text t)) rest) →
        Header text named parens (t ∷ rest)
        (cond b (spec.closing_of_body text 0 rest)
        (spec.closing_of_define text (named || spec.is_global t.kind) (spec.parens_after parens (spec.first_byte text t)) rest))
    by_test true opens left =
        inl (record {
          place = 0;
          first = record { has = opens_here text named parens t rest opens; none_before = λ q less. absurd (omega arith) };
          same = refl;
        })
    by_test false closed left = by_header _ closed left

-- The whole define

can_open : (text : List ℕ) (ts : List Token) (place : ℕ) → OpensFrom text false 0 ts place → CanOpenBody text ts place
can_open text ts place o = record { brace = o.brace; named = (let some = o.name in omega arith); outside = o.outside }

can_open_back : (text : List ℕ) (ts : List Token) (place : ℕ) → CanOpenBody text ts place → OpensFrom text false 0 ts place
can_open_back text ts place o =
    let some = o.named in
    let all = o.outside 0 in
    record { brace = o.brace; name = omega arith; all = omega arith; outside = o.outside }

first_same : (P Q : ℕ → Type 0) (n : ℕ) → ((k : ℕ) → P k → Q k) → ((k : ℕ) → Q k → P k) → IsFirst P n → IsFirst Q n
first_same P Q n on back first = record { has = on n first.has; none_before = λ q less h. first.none_before q less (back q h) }

-- after the opening brace the places are those of the body
level_later :
    (text : List ℕ) (ts rest : List Token) (t : Token) (k j : ℕ) → drop k ts ≡ t ∷ rest →
    spec.first_byte text t ≡ byte "{" → LevelFrom text 0 rest j → AreLevel text ts k (k + suc j)
level_later text ts rest t k j e is level =
    let more : suc (k + suc j) ≡ k + suc (suc j) = omega arith in
    let opened = count_cons text (byte "{") t (take (suc j) rest) in
    let closed = count_cons text (byte "}") t (take (suc j) rest) in
    record {
      after = omega arith;
      same = rw (more, drop-take, e, opened, closed, is) (let h : 0 + 1 + bracket_count text (byte "{") (take (suc j) rest) ≡ bracket_count text (byte "}") (take (suc j) rest) = level in omega arith);
    }

level_sooner :
    (text : List ℕ) (ts rest : List Token) (t : Token) (k j : ℕ) → drop k ts ≡ t ∷ rest →
    spec.first_byte text t ≡ byte "{" → AreLevel text ts k (k + suc j) → LevelFrom text 0 rest j
level_sooner text ts rest t k j e is level =
    let more : suc (k + suc j) ≡ k + suc (suc j) = omega arith in
    let opened = count_cons text (byte "{") t (take (suc j) rest) in
    let closed = count_cons text (byte "}") t (take (suc j) rest) in
    let same = level.same in
    let there = rw (more, drop-take, e, opened, closed, is) at same in
    omega arith

not_level_at_first :
    (text : List ℕ) (ts rest : List Token) (t : Token) (k : ℕ) → drop k ts ≡ t ∷ rest →
    spec.first_byte text t ≡ byte "{" → ¬ AreLevel text ts k k
not_level_at_first text ts rest t k e is level =
    let more : suc k ≡ k + suc 0 = omega arith in
    let opened = count_cons text (byte "{") t [] in
    let closed = count_cons text (byte "}") t [] in
    let same = level.same in
    let there = rw (more, drop-take, e, opened, closed, is) at same in
    omega arith

-- what stands at the opening place
record Opening (text : List ℕ) (ts : List Token) (k : ℕ) : Type 0 where
  brace : Token
  rest : List Token
  here : drop k ts ≡ brace ∷ rest
  left : drop (suc k) ts ≡ rest
  byte_is : spec.first_byte text brace ≡ 123

opening_at :
    (text : List ℕ) (ts : List Token) (k : ℕ) → IsSomeAnd (slice_get ts k) (λ t. spec.first_byte text t ≡ byte "{") →
    Opening text ts k
opening_at text [] k h = absurd (h)
opening_at text (t ∷ rest) zero h = record { brace = t; rest = rest; here = refl; left = refl; byte_is = h }
opening_at text (t ∷ rest) (suc k) h =
    let o = opening_at text rest k h in record { brace = o.brace; rest = o.rest; here = o.here; left = o.left; byte_is = o.byte_is }

token_at : (ts rest : List Token) (t : Token) (k j : ℕ) → drop k ts ≡ t ∷ rest → slice_get ts (k + suc j) ≡ slice_get rest j
token_at [] rest t zero j e = absurd (cc)
token_at [] rest t (suc k) j e = absurd (cc)
token_at (u ∷ ts) rest t zero j e =
    let one : 0 + suc j ≡ suc j = omega arith in let same : ts ≡ rest = (cc) in rw one (ap (λ l. slice_get l j) same)
token_at (u ∷ ts) rest t (suc k) j e =
    let one : suc k + suc j ≡ suc (k + suc j) = omega arith in rw one (token_at ts rest t k j e)

pub closes : (text : List ℕ) (ts : List Token) (t : Token) → spec.closing_of_define text false 0 ts ≡ Some t → Closes text ts t
closes text ts t e = by_header (header text false 0 ts)
  where
    by_header : Header text false 0 ts (spec.closing_of_define text false 0 ts) → Closes text ts t
    by_header (inr ends) = absurd (let none = ends.same in cc)
    by_header (inl found) =
        let k : ℕ = found.place in
        let o = opening_at text ts found.place found.first.has.brace in
        let closing : spec.closing_of_body text 0 o.rest ≡ Some t = ap (spec.closing_of_body text 0) (sym o.left) ∙ sym found.same ∙ e in
        let inner : BodyFound text 0 o.rest t = subst (Body text 0 o.rest) closing (body text 0 o.rest) in
        record {
          opening = found.place;
          closing = found.place + suc inner.place;
          opens = first_same _ (CanOpenBody text ts) found.place (can_open text ts) (can_open_back text ts) found.first;
          level = record {
            has = level_later text ts o.rest o.brace found.place inner.place o.here o.byte_is inner.first.has;
            none_before = sooner found o inner;
          };
          token = token_at ts o.rest o.brace found.place inner.place o.here ∙ inner.token;
        }
      where
        sooner :
            (found : HeaderFound text false 0 ts (spec.closing_of_define text false 0 ts)) (o : Opening text ts found.place)
            (inner : BodyFound text 0 o.rest t) (q : ℕ) → q < found.place + suc inner.place → ¬ AreLevel text ts found.place q
        sooner found o inner q less level =
            elim (cases_order q found.place) [
              | inl same ↦ not_level_at_first text ts o.rest o.brace found.place o.here o.byte_is (let P : ℕ → Type 0 = AreLevel text ts found.place in subst P same level)
              | inr (inl before) ↦ (let after = level.after in absurd (omega arith))
              | inr (inr later) ↦
                  (let j : ℕ = q - suc found.place in
                  let at : q ≡ found.place + suc (q - suc found.place) = omega arith in
                  let P : ℕ → Type 0 = AreLevel text ts found.place in
                  inner.first.none_before (q - suc found.place) (omega arith)
                  (level_sooner text ts o.rest o.brace found.place (q - suc found.place) o.here o.byte_is (subst P at level)))
            ]

pub closes_none : (text : List ℕ) (ts : List Token) → spec.closing_of_define text false 0 ts ≡ None → (t : Token) → ¬ Closes text ts t
closes_none text ts e t c = by_header (header text false 0 ts)
  where
    by_header : Header text false 0 ts (spec.closing_of_define text false 0 ts) → ⊥
    by_header (inr ends) = ends.none c.opening (can_open_back text ts c.opening c.opens.has)
    by_header (inl found) =
        let o = opening_at text ts c.opening c.opens.has.brace in
        let first = first_same _ (CanOpenBody text ts) found.place (can_open text ts) (can_open_back text ts) found.first in
        let place : found.place ≡ c.opening = first_unique _ found.place c.opening first c.opens in
        let left : drop (suc found.place) ts ≡ o.rest = ap (λ n. drop (suc n) ts) place ∙ o.left in
        let closing : spec.closing_of_body text 0 o.rest ≡ None = ap (spec.closing_of_body text 0) (sym left) ∙ sym found.same ∙ e in
        let nowhere : (place : ℕ) → ¬ LevelFrom text 0 o.rest place = subst (Body text 0 o.rest) closing (body text 0 o.rest) in
        let after = c.level.has.after in
        elim (cases_order c.closing c.opening) [
          | inl same ↦ not_level_at_first text ts o.rest o.brace c.opening o.here o.byte_is (let P : ℕ → Type 0 = AreLevel text ts c.opening in subst P same c.level.has)
          | inr (inl before) ↦ omega arith
          | inr (inr later) ↦
              (let at : c.closing ≡ c.opening + suc (c.closing - suc c.opening) = omega arith in
              let P : ℕ → Type 0 = AreLevel text ts c.opening in
              nowhere (c.closing - suc c.opening)
              (level_sooner text ts o.rest o.brace c.opening (c.closing - suc c.opening) o.here o.byte_is (subst P at c.level.has)))
        ]

-- at most one token closes a define
pub closes_one : (text : List ℕ) (ts : List Token) (t u : Token) → Closes text ts t → Closes text ts u → t ≡ u
closes_one text ts t u c d =
    let opening : c.opening ≡ d.opening = first_unique _ c.opening d.opening c.opens d.opens in
    let P : ℕ → Type 0 = λ n. IsFirst (AreLevel text ts n) c.closing in
    let level : IsFirst (AreLevel text ts d.opening) c.closing = subst P opening c.level in
    let closing : c.closing ≡ d.closing = first_unique _ c.closing d.closing level d.level in
    let one = c.token in
    let other = d.token in
    let same : Some t ≡ Some u = sym one ∙ ap (slice_get ts) closing ∙ other in
    (cc)

pub closes_exactly : (text : List ℕ) (ts : List Token) (t : Token) → (spec.closing_of_define text false 0 ts ≡ Some t) ↔ Closes text ts t
closes_exactly text ts t = (closes text ts t, λ c. by_answer c (spec.closing_of_define text false 0 ts) refl)
  where
    by_answer :
        Closes text ts t → (o : Option Token) → spec.closing_of_define text false 0 ts ≡ o →
        spec.closing_of_define text false 0 ts ≡ Some t
    by_answer c None e = absurd (closes_none text ts e t c)
    by_answer c (Some u) e = e ∙ ap Some (closes_one text ts u t (closes text ts u e) c)
