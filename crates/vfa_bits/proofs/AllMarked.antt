-- A function is numbered as a whole where each of its blocks is marked.
use Rattle.std.proofs.Common.{◌≡◌, ℕ, ◌<◌, Bool, true, false, cond, List, [], ◌∷◌, ◌++◌, filter, flat_map, map, replicate, length, refl, sym, ap, ◌∙◌, subst, arith}
use Rattle.std.specs.Prelude.{nat_eq}
use Rattle.std.specs.List.{IsDistinct, range_with_len}
use Rattle.std.proofs.lemmas.List.{get_or-replicate}
use Rattle.vfa_ir.specs.declared.functions.Function.{Function}
use Rattle.vfa_ir.specs.declared.functions.Param.{Param}
use Rattle.vfa_ir.specs.Printable.{block_call_places, block_ids}
use Rattle.vfa_ir.specs.Walks.{is_in}
use Rattle.vfa_mean.specs.Kept.{is_marked}
use Rattle.vfa_mean.specs.Numbering.{DefinesKeptOnce, MayBeNumbered, each_number, kept_calls, kept_numbers, kept_values, numbered}
use Rattle.vfa_mean.specs.Renaming.{at_places, renamed}
use Rattle.vfa_mean.proofs.FreshOperands.Definitions.{in_first, in_rest}
use Rattle.vfa_mean.proofs.KeptParts.{from_range}

filter_alike : (p q : ℕ → Bool) (xs : List ℕ) → ((x : ℕ) → is_in x xs ≡ true → p x ≡ q x) → filter p xs ≡ filter q xs
filter_alike p q [] same = refl
filter_alike p q (x ∷ xs) same =
    ap (λ t. cond t (x ∷ filter p xs) (filter p xs)) (same x (in_first x x xs refl))
    ∙ ap (λ l. cond (q x) (x ∷ l) l) (filter_alike p q xs (λ y t. same y (in_rest y x xs t)))

module _ (f : Function) where
  abbrev pub all : ℕ → Bool
  all = is_marked (replicate (length f.blocks) true)

  marked : (b : ℕ) → b < length f.blocks → all b ≡ true
  marked b l = get_or-replicate (length f.blocks) b true false l

  same_numbers : kept_numbers f all ≡ kept_numbers f each_number
  same_numbers = filter_alike all each_number (range_with_len 0 (length f.blocks)) (λ b t. marked b (let l = from_range 0 (length f.blocks) b t in omega (arith, l)))

  same_values : kept_values f all ≡ kept_values f each_number
  same_values = ap (λ ns. map (λ (p : Param). p.value.0) f.params ++ flat_map block_ids (at_places f.blocks ns)) same_numbers

  same_calls : kept_calls f all ≡ kept_calls f each_number
  same_calls = ap (λ ns. flat_map block_call_places (at_places f.blocks ns)) same_numbers

  pub may_be_numbered : MayBeNumbered f each_number → MayBeNumbered f all
  may_be_numbered may = record {
    some = may.some;
    entry = marked 0 may.some;
    edges = λ from to kept edge. let h = may.edges from to refl edge in (marked to h.1, h.1);
    values = λ v t. may.values v (subst (λ xs. is_in v xs ≡ true) same_values t);
    calls = λ c t. may.calls c (subst (λ xs. is_in c xs ≡ true) same_calls t);
  }

  pub once : DefinesKeptOnce f each_number → DefinesKeptOnce f all
  once o = record { names = subst (IsDistinct nat_eq) (sym same_values) o.names; calls = subst (IsDistinct nat_eq) (sym same_calls) o.calls }

  pub same_numbered : numbered f all ≡ numbered f each_number
  same_numbered = ap (λ ns. renamed (record {
    values = map (λ (p : Param). p.value.0) f.params ++ flat_map block_ids (at_places f.blocks ns);
    blocks = ns;
    calls = flat_map block_call_places (at_places f.blocks ns);
  }) f) same_numbers
