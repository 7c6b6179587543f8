-- The table of a function without loops.
use Rattle.std.proofs.Common.{◌≡◌, ◌<◌, ℕ, Bool, true, false, ◌&&◌, nat_eq, if◌then◌else◌, Option, None, MatchBool, List, [], ◌∷◌, All, length, get_or, refl, sym, ◌∙◌, ap, subst}
use Rattle.std.specs.Option.{option_map}
use Rattle.std.proofs.lemmas.List.Elements.{All-head, All-tail}
use Rattle.vfa_ir.specs.declared.operations.BlockId.{BlockId}
use Rattle.vfa_ir.specs.declared.functions.Function.{Function}
use Rattle.vfa_ir.specs.Walks.{is_in, IsDefinedAt, IsMissedAt}
use Rattle.vfa_cfg.specs.Heads.{is_head}
use Rattle.vfa_cfg.specs.Order.{IsOrder, numbers}
use Rattle.vfa_values.specs.Answers.{Answers}
use Rattle.vfa_cond.specs.States.{Stored, known}
use Rattle.vfa_walk.specs.Analysis.{IsLayout, flow_of}
use Rattle.vfa_walk.specs.Kept.{kept_in_order}
use Rattle.vfa_walk.specs.Passes.{pass_table}
use Rattle.vfa_walk.specs.Sending.{layout}
use Rattle.vfa_walk.specs.Tables.{States, IsTableOf}
use Rattle.vfa_walk.proofs.Nexts.{HasPlace, place_of, no_head, no_block}
use Rattle.vfa_walk.proofs.RoundsEnd.{one_pass_gives_table, pass_alike}

-- no block is a head where none of the order is
pub no_heads : (f : Function) (order : List BlockId) → ((k : ℕ) → k < length order → is_head f order (get_or order k no_block).0 ≡ false) → (b : ℕ) → is_head f order b ≡ false
no_heads f order each b = at (is_in b (numbers order)) refl
  where
    found : HasPlace order b → is_head f order b ≡ false
    found p = sym (ap (is_head f order) p.is) ∙ each p.place p.inside

    at : (here : Bool) → is_in b (numbers order) ≡ here → is_head f order b ≡ false
    at true here = found (place_of order b here)
    at false here = no_head f order b here

-- the test of scopes at the blocks of the order alone
pub scoped : List BlockId → (ℕ → ℕ → Bool) → ℕ → ℕ → Bool
scoped order names b v = is_in b (numbers order) && names b v

and_yes : (a b : Bool) → a ≡ true → (a && b) ≡ b
and_yes true b e = refl
and_yes false b e = absurd (cc)

and_no : (a b : Bool) → a ≡ false → (a && b) ≡ false
and_no true b e = absurd (cc)
and_no false b e = refl

pub scoped_layout : (f : Function) (order : List BlockId) (names : ℕ → ℕ → Bool) → IsOrder f order →
    ((b v : ℕ) → MatchBool (names b v) (IsDefinedAt f b 0 v) (IsMissedAt f b 0 v)) → IsLayout f (layout order (scoped order names))
unfolding scoped
scoped_layout f order names is scopes = record {
  is_order = is;
  scopes = λ b v here. subst (λ x. MatchBool x (IsDefinedAt f b 0 v) (IsMissedAt f b 0 v)) (sym (and_yes (is_in b (numbers order)) (names b v) here)) (scopes b v);
  outside = λ b v absent. and_no (is_in b (numbers order)) (names b v) absent;
}

pub ordered_nothing : {V : Type 0} (order : List BlockId) (list : List (Option (Stored V))) → All (λ e. e ≡ None) list → (b : ℕ) → kept_in_order order list b ≡ None
ordered_nothing [] list none b = refl
ordered_nothing (c ∷ order) [] none b = refl
ordered_nothing (c ∷ order) (e ∷ list) none b =
    choose (nat_eq c.0 b) (ap (option_map known) (All-head (λ e. e ≡ None) e list none)) (ordered_nothing order list (All-tail (λ e. e ≡ None) e list none) b)
  where
    choose : (t : Bool) → option_map known e ≡ None → kept_in_order order list b ≡ None → (if t then option_map known e else kept_in_order order list b) ≡ None
    choose true here later = here
    choose false here later = later

pub table_is : {V : Type 0} (answers : Answers V) (f : Function) (order : List BlockId) (names : ℕ → ℕ → Bool) (heads : List (Option (Stored V))) (t : States V) → IsOrder f order →
    ((b v : ℕ) → MatchBool (names b v) (IsDefinedAt f b 0 v) (IsMissedAt f b 0 v)) → ((b : ℕ) → is_head f order b ≡ false) → All (λ e. e ≡ None) heads →
    (IsLayout f (layout order (scoped order names)) → (b : ℕ) → t b ≡ pass_table (flow_of answers f (layout order (scoped order names))) (kept_in_order order heads) b) →
    IsTableOf answers f t
table_is answers f order names heads t is scopes plain none table =
    let l = layout order (scoped order names) in
    let known_layout : IsLayout f l = scoped_layout f order names is scopes in
    record {
      layout = l;
      is_layout = known_layout;
      is_table = one_pass_gives_table (flow_of answers f l) t plain
          (λ b. table known_layout b ∙ pass_alike (flow_of answers f l) (kept_in_order order heads) (λ _. None) (ordered_nothing order heads none) b);
    }
