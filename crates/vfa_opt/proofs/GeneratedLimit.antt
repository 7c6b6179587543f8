-- How long generated functions are at most.
use Rattle.std.proofs.Common.{◌≡◌, ◌∙◌, ℕ, zero, suc, ◌+◌, ◌-◌, ◌*◌, ◌%◌, ◌^◌, ◌<◌, ◌≤◌, ◌==◌, Bool, true, false, if◌then◌else◌, nat_lt, List, ◌∷◌, ◌++◌, length, get_or, codes, decimal, refl, sym, ap, subst, arith, length-append, add-one}
use Rattle.std.proofs.Math.Nat.{mod-lt, mod-le, pow-succ'}
use Rattle.std.proofs.lemmas.Bool.{ltb-false}
use Rattle.std.proofs.lemmas.Fmt.{length-decimal-le}
use Rattle.vfa_ir.specs.declared.operations.Bin.{Bin}
use Rattle.vfa_ir.specs.Words.{bin_word}
use Rattle.vfa_print.specs.Trees.{signed_text}
use Rattle.vfa_opt.specs.Generated.{next_state, state_after, drawn, name, result_name, operations}
use Rattle.vfa_opt.specs.GeneratedLines.{cut_bytes, first_bytes, second_bytes, line_bytes, lines_bytes, parameters_bytes, header_bytes, comparison_bytes, returning_bytes, end_bytes, body_bytes, function_bytes, functions_bytes}
use Rattle.vfa_opt.proofs.GeneratedOneByOne.{function_at, no_lines, more_lines, one_function, more_functions}

below : (x m : ℕ) → 0 < m → drawn x m < m
unfolding drawn
below x m h = mod-lt _ h

number_length : (n : ℕ) → n < 2 ^ 64 → length (decimal n) ≤ 20
number_length n h = length-decimal-le 20 n (omega arith) (omega arith) h

name_length : (k : ℕ) → k < 2 ^ 64 → length (name k) ≤ 21
name_length zero h = omega arith
name_length (suc zero) h = omega arith
name_length (suc (suc j)) h = let few = number_length j (omega arith) in omega (arith, few)

bin_length : (b : Bin) → length (bin_word b) ≤ 4
bin_length Bin.Add = omega arith
bin_length Bin.Sub = omega arith
bin_length Bin.Mul = omega arith
bin_length Bin.Shl = omega arith
bin_length Bin.Udiv = omega arith
bin_length Bin.Sdiv = omega arith
bin_length Bin.Lshr = omega arith
bin_length Bin.Ashr = omega arith
bin_length Bin.Urem = omega arith
bin_length Bin.Srem = omega arith
bin_length Bin.And = omega arith
bin_length Bin.Or = omega arith
bin_length Bin.Xor = omega arith

signed_length : (width bits : ℕ) → 1 ≤ width → bits < 2 ^ 16 → length (signed_text width bits) ≤ 21
signed_length zero bits some small = absurd (omega arith)
signed_length (suc w) bits some small = by (nat_lt bits (2 ^ (suc w - 1))) refl
  where
    by :
        (t : Bool) → nat_lt bits (2 ^ (suc w - 1)) ≡ t →
        length (if t then decimal bits else 45 ∷ decimal (2 ^ suc w - bits)) ≤ 21
    by true e = let few = number_length bits (omega arith) in omega (arith, few)
    by false e =
        let is : suc w - 1 ≡ w = omega arith in
        let large : 2 ^ w ≤ bits = subst (λ v. 2 ^ v ≤ bits) is (ltb-false bits (2 ^ (suc w - 1)) e) in
        let twice : 2 ^ suc w ≡ 2 * 2 ^ w = pow-succ' 2 w in
        let few = number_length (2 ^ suc w - bits) (omega arith) in omega (arith, few)

literal_length : (width number : ℕ) → 1 ≤ width → number < 2 ^ 16 → length (cut_bytes width number) ≤ 21
literal_length width number some small = by (width == 1) (number % 2 ^ width == 1) (signed_text width (number % 2 ^ width)) signed
  where
    by :
        (one t : Bool) (s : List ℕ) → length s ≤ 21 →
        length (if one then (if t then codes "true" else codes "false") else s) ≤ 21
    by true true s h = omega arith
    by true false s h = omega arith
    by false t s h = h

    signed : length (signed_text width (number % 2 ^ width)) ≤ 21
    signed = let less : number % 2 ^ width ≤ number = mod-le number (2 ^ width) in signed_length width (number % 2 ^ width) some (omega arith)

-- lines
result_length : (j : ℕ) → j < 2 ^ 32 → length (result_name j) ≤ 21
result_length j h = let few = number_length j (omega arith) in omega (arith, few)

second_length : (width names x : ℕ) → 1 ≤ width → 0 < names → names < 2 ^ 64 → length (second_bytes width names x) ≤ 22
second_length width names x some positive small = by (drawn x 2 == 0) (cut_bytes width (drawn (next_state x) 65536)) (name (drawn (next_state x) names)) cut named
  where
    by :
        (t : Bool) (a n : List ℕ) → length a ≤ 21 → length n ≤ 21 → length (if t then a else codes "%" ++ n) ≤ 22
    by true a n h k = omega arith
    by false a n h k = omega arith

    cut : length (cut_bytes width (drawn (next_state x) 65536)) ≤ 21
    cut = literal_length width (drawn (next_state x) 65536) some (below (next_state x) 65536 (omega arith))

    named : length (name (drawn (next_state x) names)) ≤ 21
    named = let less : drawn (next_state x) names < names = below (next_state x) names positive in name_length (drawn (next_state x) names) (omega arith)

line_sum :
    (r o d n s : List ℕ) → length r ≤ 21 → length o ≤ 4 → length d ≤ 20 → length n ≤ 21 → length s ≤ 22 →
    length (codes "  %" ++ (r ++ (codes " = " ++ ((o ++ (codes " " ++ ((codes "i" ++ d) ++ (codes " " ++ (codes "%" ++ n)))))
    ++ (codes ", " ++ (s ++ codes "\n")))))) ≤ 120
line_sum r o d n s hr ho hd hn hs = simp length-append (omega arith)

line_length : (width j x : ℕ) → 1 ≤ width → width < 2 ^ 64 → j < 2 ^ 32 → length (line_bytes width j x) ≤ 120
unfolding line_bytes first_bytes
line_length width j x some small few =
    line_sum (result_name j) (bin_word (get_or operations (drawn x 8) Bin.And)) (decimal width) (name (drawn (next_state x) (j + 2)))
    (second_bytes width (j + 2) (next_state (next_state x))) (result_length j few) (bin_length (get_or operations (drawn x 8) Bin.And))
    (number_length width small)
    (let less : drawn (next_state x) (j + 2) < j + 2 = below (next_state x) (j + 2) (omega arith) in
    name_length (drawn (next_state x) (j + 2)) (omega arith))
    (second_length width (j + 2) (next_state (next_state x)) some (omega arith) (omega arith))

lines_length :
    (width n x : ℕ) → 1 ≤ width → width < 2 ^ 64 → n < 2 ^ 32 → length (lines_bytes width n x) ≤ 120 * n
lines_length width zero x some small few = rw (no_lines width x) (omega arith)
lines_length width (suc n) x some small few =
    let e : length (lines_bytes width (suc n) x)
    ≡ length (lines_bytes width n x) + length (line_bytes width n (state_after (4 * n) x)) =
    ap length (ap (λ k. lines_bytes width k x) (sym (add-one n)) ∙ more_lines width n x)
    ∙ length-append (lines_bytes width n x) (line_bytes width n (state_after (4 * n) x)) in
    let before = lines_length width n x some small (omega arith) in
    let last = line_length width n (state_after (4 * n) x) some small (omega arith) in
    omega (arith, e, before, last)

-- functions
head_sum :
    (d i l : List ℕ) → length d ≤ 20 → length i ≤ 20 → length l ≤ 6000 →
    length ((codes "define " ++ ((codes "i" ++ d) ++ (codes " @g" ++ (i ++ (codes "(" ++ ((codes "i" ++ d) ++ (codes " %a, "
    ++ ((codes "i" ++ d) ++ codes " noundef %b) {\n")))))))) ++ (codes "entry:\n" ++ l)) ≤ 7000
head_sum d i l hd hi hl = simp length-append (omega arith)

comparison_sum :
    (d r c : List ℕ) → length d ≤ 20 → length r ≤ 21 → length c ≤ 21 →
    length (codes "  %c = icmp ult " ++ ((codes "i" ++ d) ++ (codes " %" ++ (r
    ++ (codes ", " ++ (c ++ codes "\n  br i1 %c, label %t, label %e\n")))))) ≤ 200
comparison_sum d r c hd hr hc = simp length-append (omega arith)

returning_sum :
    (n d r : List ℕ) → length n ≤ 1 → length d ≤ 20 → length r ≤ 21 →
    length (codes "\n" ++ (n ++ (codes ":\n  ret " ++ ((codes "i" ++ d) ++ (codes " %" ++ (r ++ codes "\n")))))) ≤ 200
returning_sum n d r hn hd hr = simp length-append (omega arith)

end_sum : (l c t e : List ℕ) → length l ≤ 5000 → length c ≤ 200 → length t ≤ 200 → length e ≤ 200 → length (l ++ (c ++ (t ++ (e ++ codes "}")))) ≤ 6000
end_sum l c t e hl hc ht he = simp length-append (omega arith)

drawn_result_length : (x : ℕ) → length (result_name (drawn x 40)) ≤ 21
drawn_result_length x = let less : drawn x 40 < 40 = below x 40 (omega arith) in result_length (drawn x 40) (omega arith)

comparison_length : (width x : ℕ) → 1 ≤ width → width < 2 ^ 64 → length (comparison_bytes width x) ≤ 200
unfolding comparison_bytes
comparison_length width x some small =
    comparison_sum (decimal width) (result_name (drawn x 40)) (cut_bytes width (drawn (next_state x) 65536)) (number_length width small)
    (drawn_result_length x)
    (literal_length width (drawn (next_state x) 65536) some (below (next_state x) 65536 (omega arith)))

returning_length : (label : List ℕ) (width x : ℕ) → length label ≤ 1 → width < 2 ^ 64 → length (returning_bytes label width x) ≤ 200
unfolding returning_bytes
returning_length label width x short small =
    returning_sum label (decimal width) (result_name (drawn x 40)) short (number_length width small) (drawn_result_length x)

body_length : (width i x : ℕ) → 1 ≤ width → width < 2 ^ 64 → i < 2 ^ 64 → length (body_bytes width i x) ≤ 7000
unfolding body_bytes header_bytes parameters_bytes end_bytes
body_length width i x some small few =
    head_sum (decimal width) (decimal i) _ (number_length width small) (number_length i few)
    (end_sum (lines_bytes width 40 x) (comparison_bytes width (state_after 160 x))
    (returning_bytes (codes "t") width (next_state (next_state (state_after 160 x))))
    (returning_bytes (codes "e") width (next_state (next_state (next_state (state_after 160 x)))))
    (let all = lines_length width 40 x some small (omega arith) in omega (arith, all))
    (comparison_length width (state_after 160 x) some small)
    (returning_length (codes "t") width (next_state (next_state (state_after 160 x))) (omega arith) small)
    (returning_length (codes "e") width (next_state (next_state (next_state (state_after 160 x)))) (omega arith) small))

function_length : (i x : ℕ) → i < 2 ^ 64 → length (function_bytes i x) ≤ 7000
unfolding function_bytes
function_length i x few =
    let less : drawn x 128 < 128 = below x 128 (omega arith) in
    body_length (1 + drawn x 128) i (next_state x) (omega arith) (omega arith) few

functions_length : (seed n : ℕ) → 1 ≤ n → n < 2 ^ 32 → length (functions_bytes seed n) + 2 ≤ 65536 * n
functions_length seed zero some few = absurd (omega arith)
functions_length seed (suc zero) some few =
    let e : length (functions_bytes seed 1) ≡ length (function_at seed 0) = ap length (one_function seed) in
    let first = function_length 0 (state_after (165 * 0) seed) (omega arith) in
    omega (arith, e, first)
functions_length seed (suc (suc n)) some few =
    let e : length (functions_bytes seed (suc (suc n)))
    ≡ length (functions_bytes seed (suc n)) + (2 + length (function_at seed (suc n))) =
    ap length (ap (functions_bytes seed) (sym (add-one (suc n))) ∙ more_functions seed (suc n) (omega arith))
    ∙ length-append (functions_bytes seed (suc n)) (codes "\n\n" ++ function_at seed (suc n))
    ∙ ap (λ k. length (functions_bytes seed (suc n)) + k) (length-append (codes "\n\n") (function_at seed (suc n))) in
    let before = functions_length seed (suc n) (omega arith) (omega arith) in
    let last = function_length (suc n) (state_after (165 * suc n) seed) (omega arith) in
    omega (arith, e, before, last)

pub within_limit : (seed : ℕ) → length (functions_bytes seed 256 ++ codes "\n") ≤ 2 ^ 24
within_limit seed =
    let all = functions_length seed 256 (omega arith) (omega arith) in
    omega (arith, length-append (functions_bytes seed 256) (codes "\n"), all)
