-- Switches of the cases that are left.
use Rattle.std.proofs.Common.{◌≡◌, ◌<◌, ◌+◌, ℕ, Bool, true, false, List, [], ◌∷◌, ◌++◌, drop, length, get_or, refl, sym, ap, ◌∙◌, add-one, append_assoc}
use Rattle.std.proofs.lemmas.List.{drop_more}
use Rattle.vfa_ir.specs.declared.operations.BlockId.{BlockId}
use Rattle.vfa_ir.specs.declared.operations.Operand.{Operand}
use Rattle.vfa_ir.specs.declared.functions.Term.{Term}
use Rattle.vfa_rewrite.specs.Rewritten.{but_last, cases_left, if_left, last_target, many_ways}

last_of : (d last : ℕ × BlockId) (rest : List (ℕ × BlockId)) → last_target d (rest ++ (last ∷ [])) ≡ last.1
last_of d last [] = refl
last_of d last (e ∷ rest) = last_of e last rest

but_last_of : (d last : ℕ × BlockId) (rest : List (ℕ × BlockId)) → but_last d (rest ++ (last ∷ [])) ≡ d ∷ rest
but_last_of d last [] = refl
but_last_of d last (e ∷ rest) = ap (λ l. d ∷ l) (but_last_of e last rest)

-- the last case becomes the other one
pub ways_by_last : (w : ℕ) (on : Operand) (other : BlockId) (last : ℕ × BlockId) (cases : List (ℕ × BlockId)) →
    many_ways true w on last.1 cases ≡ many_ways false w on other (cases ++ (last ∷ []))
ways_by_last w on other last [] = refl
ways_by_last w on other last (e ∷ []) = refl
ways_by_last w on other last (e ∷ (d ∷ rest)) = λ i. Term.Switch w on (sym (last_of d last rest) i) (e ∷ sym (but_last_of d last rest) i)

-- one case more
module _ (left : ℕ → Bool) (cases : List (ℕ × BlockId)) (k : ℕ) (d : ℕ × BlockId) (less : k < length cases) (now all : List (ℕ × BlockId))
    (so_far : now ++ cases_left left (k + 1) (drop k cases) ≡ all) where
  case_now : cases_left left (k + 1) (drop k cases) ≡ if_left (left (k + 1)) (get_or cases k d) (cases_left left (k + 1 + 1) (drop (k + 1) cases))
  case_now = ap (cases_left left (k + 1)) (drop_more cases k d less)
      ∙ ap (λ n. if_left (left (k + 1)) (get_or cases k d) (cases_left left n (drop (k + 1) cases))) (sym (add-one (k + 1)))

  pub case_gone : left (k + 1) ≡ false → now ++ cases_left left (k + 1 + 1) (drop (k + 1) cases) ≡ all
  case_gone gone =
      ap (λ l. now ++ l) (sym (case_now ∙ ap (λ t. if_left t (get_or cases k d) (cases_left left (k + 1 + 1) (drop (k + 1) cases))) gone)) ∙ so_far

  pub case_kept : left (k + 1) ≡ true → (new : List (ℕ × BlockId)) → new ≡ now ++ (get_or cases k d ∷ []) → new ++ cases_left left (k + 1 + 1) (drop (k + 1) cases) ≡ all
  case_kept is_left new put =
      ap (λ l. l ++ cases_left left (k + 1 + 1) (drop (k + 1) cases)) put
      ∙ (append_assoc now (get_or cases k d ∷ []) (cases_left left (k + 1 + 1) (drop (k + 1) cases))
      ∙ (ap (λ l. now ++ l) (sym (case_now ∙ ap (λ t. if_left t (get_or cases k d) (cases_left left (k + 1 + 1) (drop (k + 1) cases))) is_left)) ∙ so_far))
