-- Lines and functions one by one.
use Rattle.std.proofs.Common.{◌≡◌, ◌∙◌, ℕ, zero, suc, ◌+◌, ◌*◌, ◌≤◌, List, [], ◌++◌, flat_map, codes, refl, sym, ap, arith, add-one, append_assoc, append-nil}
use Rattle.std.specs.List.{range_with_len}
use Rattle.vfa_opt.specs.Generated.{state_after}
use Rattle.vfa_opt.specs.GeneratedLines.{line_bytes, lines_bytes, function_bytes, functions_bytes}

-- one more number, with its list
more : (f : ℕ → List ℕ) (a n : ℕ) → flat_map f (range_with_len a (suc n)) ≡ flat_map f (range_with_len a n) ++ f (a + n)
more f a zero = let at : a + 0 ≡ a = omega arith in rw at (append-nil (f a))
more f a (suc n) =
    let at : a + 1 + n ≡ a + suc n = omega arith in
    ap (λ l. f a ++ l) (more f (a + 1) n ∙ ap (λ k. flat_map f (range_with_len (a + 1) n) ++ f k) at)
    ∙ sym (append_assoc (f a) (flat_map f (range_with_len (a + 1) n)) (f (a + suc n)))

pub no_lines : (width x : ℕ) → lines_bytes width 0 x ≡ []
unfolding lines_bytes
no_lines width x = refl

pub more_lines :
    (width n x : ℕ) → lines_bytes width (n + 1) x ≡ lines_bytes width n x ++ line_bytes width n (state_after (4 * n) x)
unfolding lines_bytes
more_lines width n x =
    let at : 0 + n ≡ n = omega arith in
    ap (λ k. lines_bytes width k x) (add-one n)
    ∙ more (λ j. line_bytes width j (state_after (4 * j) x)) 0 n
    ∙ ap (λ k. lines_bytes width n x ++ line_bytes width k (state_after (4 * k) x)) at

-- the function of this number
abbrev pub function_at : ℕ → ℕ → List ℕ
function_at seed i = function_bytes i (state_after (165 * i) seed)

pub one_function : (seed : ℕ) → functions_bytes seed 1 ≡ function_at seed 0
unfolding functions_bytes
one_function seed = append-nil (function_at seed 0)

pub more_functions :
    (seed n : ℕ) → 1 ≤ n → functions_bytes seed (n + 1) ≡ functions_bytes seed n ++ (codes "\n\n" ++ function_at seed n)
unfolding functions_bytes
more_functions seed zero h = absurd (omega arith)
more_functions seed (suc n) h =
    let at : 1 + n ≡ suc n = omega arith in
    let rest : List ℕ = flat_map (λ i. codes "\n\n" ++ function_at seed i) (range_with_len 1 n) in
    ap (λ k. functions_bytes seed k) (add-one (suc n))
    ∙ ap (λ l. function_at seed 0 ++ l) (more (λ i. codes "\n\n" ++ function_at seed i) 1 n)
    ∙ ap (λ k. function_at seed 0 ++ (rest ++ (codes "\n\n" ++ function_at seed k))) at
    ∙ sym (append_assoc (function_at seed 0) rest (codes "\n\n" ++ function_at seed (suc n)))
