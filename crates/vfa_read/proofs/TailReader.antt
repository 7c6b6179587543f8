-- Reading what stands between the parameters and the body of a function is exact.
use Rattle.std.proofs.Common.{◌≡◌, ℕ, zero, suc, ◌+◌, ◌-◌, Bool, true, false, not, ◌&&◌, ◌==◌, nat_lt, List, [], ◌∷◌, ◌++◌, replicate, length, if◌then◌else◌, Option, Some, None, Result, Ok, Err, IsTrue, refl, sym, ap, ◌∙◌, subst, arith, eqb-true, add-one, true≢false}
use Rattle.std.specs.List.{AllByRecursion}
use Rattle.std.proofs.lemmas.Bool.Decides.{nat_tests}
use Rattle.std.specs.Str.{byte}
use Rattle.vfa_ir.specs.Lexemes.{Lexeme, local, global, label, nameless_local, nameless_global, nameless_label, metadata, group, number, mark, word, string, other}
use Rattle.vfa_ir.specs.Grammar.{may_follow_parameters, is_balanced}
use Rattle.vfa_read.specs.Headers.{Place, opens, closes, stands, leaves, place_of, with_lexeme, tail_end, tail_from}
use Rattle.vfa_read.specs.Readers.{next_passes}
use Rattle.vfa_read.specs.Trees.{open_after}
use Rattle.vfa_read.proofs.Exact.{Exact, Stops, may, made_err, ok_value, ok_rest}
use Rattle.vfa_read.proofs.Words.{and_parts}
use Rattle.vfa_read.proofs.Outcomes.{err_ok}

-- what the place of a lexeme says of it

data Says (l : Lexeme) : Place → Type 0 where
  says_opens : may_follow_parameters l ≡ true → ((n : ℕ) (t : List Lexeme) → is_balanced n (l ∷ t) ≡ is_balanced (n + 1) t) → Says l opens
  says_closes : may_follow_parameters l ≡ true → ((n : ℕ) (t : List Lexeme) → is_balanced n (l ∷ t) ≡ (nat_lt 0 n && is_balanced (n - 1) t)) → Says l closes
  says_stands : may_follow_parameters l ≡ true → ((n : ℕ) (t : List Lexeme) → is_balanced n (l ∷ t) ≡ is_balanced n t) → Says l stands
  says_leaves : may_follow_parameters l ≡ false → Says l leaves

says_mark : (c : ℕ) → Says (mark c) (place_of (mark c))
says_mark c = go (c == byte "(") refl (c == byte ")") refl (may_follow_parameters (mark c)) refl
  where
    go : (a : Bool) → (c == byte "(") ≡ a → (b : Bool) → (c == byte ")") ≡ b → (m : Bool) → may_follow_parameters (mark c) ≡ m → Says (mark c) (place_of (mark c))
    go true a b p m q =
        let is = eqb-true c (byte "(") a in
        let place : place_of (mark c) ≡ opens = rw a refl in
        subst (Says (mark c)) (sym place) (says_opens (ap (λ z. may_follow_parameters (mark z)) is) (λ n t. rw a refl))
    go false a true b m q =
        let is = eqb-true c (byte ")") b in
        let place : place_of (mark c) ≡ closes = rw (a, b) refl in
        subst (Says (mark c)) (sym place) (says_closes (ap (λ z. may_follow_parameters (mark z)) is) (λ n t. rw (a, b) refl))
    go false a false b true q =
        let place : place_of (mark c) ≡ stands = rw (a, b, q) refl in
        subst (Says (mark c)) (sym place) (says_stands q (λ n t. rw (a, b) refl))
    go false a false b false q =
        let place : place_of (mark c) ≡ leaves = rw (a, b, q) refl in
        subst (Says (mark c)) (sym place) (says_leaves q)

says : (l : Lexeme) → Says l (place_of l)
says (local x) = says_stands refl (λ n t. refl)
says (global x) = says_stands refl (λ n t. refl)
says (label x) = says_stands refl (λ n t. refl)
says nameless_local = says_stands refl (λ n t. refl)
says nameless_global = says_stands refl (λ n t. refl)
says nameless_label = says_stands refl (λ n t. refl)
says (metadata x) = says_leaves refl
says (group x) = says_stands refl (λ n t. refl)
says (number x) = says_stands refl (λ n t. refl)
says (word x) = says_stands refl (λ n t. refl)
says string = says_stands refl (λ n t. refl)
says (mark c) = says_mark c
says other = says_leaves refl

-- the steps

module _ (l : Lexeme) (ls : List Lexeme) where
  step_opens : (n : ℕ) → place_of l ≡ opens → tail_from n (l ∷ ls) ≡ with_lexeme l (tail_from (suc n) ls)
  unfolding tail_from
  step_opens n e = rw (e, tail_from) refl

  step_closes : (n : ℕ) → place_of l ≡ closes → tail_from (suc n) (l ∷ ls) ≡ with_lexeme l (tail_from n ls)
  unfolding tail_from
  step_closes n e = rw (e, tail_from) refl

  step_closed : place_of l ≡ closes → tail_from zero (l ∷ ls) ≡ Err (suc (length ls))
  unfolding tail_from
  step_closed e = rw (e, tail_from) refl

  step_stands : (n : ℕ) → place_of l ≡ stands → tail_from n (l ∷ ls) ≡ with_lexeme l (tail_from n ls)
  unfolding tail_from
  step_stands n e = rw (e, tail_from) refl

  step_leaves : (n : ℕ) → place_of l ≡ leaves → tail_from n (l ∷ ls) ≡ tail_end n (l ∷ ls)
  unfolding tail_from
  step_leaves n e = rw (e, tail_from) refl

no_more : (n : ℕ) → tail_from n [] ≡ tail_end n []
unfolding tail_from
no_more n = refl

-- what fits, and what may follow

abbrev pub TailFits : ℕ → List Lexeme → Type 0
TailFits n t = AllByRecursion (λ l. IsTrue (may_follow_parameters l)) t × (is_balanced n t ≡ true)

abbrev pub tail_follow : List Lexeme → Lexeme → Bool
tail_follow t l = not (may_follow_parameters l)

err_same : {k m : ℕ} → ◌≡◌ {A = Result (List Lexeme × List Lexeme) ℕ} (Err k) (Err m) → k ≡ m
err_same e = cc

record Got (n : ℕ) (ts rest t : List Lexeme) : Type 0 where
  parts : ts ≡ t ++ rest
  fits : TailFits n t
  ends : may (tail_follow t) rest ≡ true

record Continued (l : Lexeme) (r : Result (List Lexeme × List Lexeme) ℕ) (t rest : List Lexeme) : Type 0 where
  more : List Lexeme
  read_is : r ≡ Ok (more, rest)
  whole : l ∷ more ≡ t

continued : (l : Lexeme) (r : Result (List Lexeme × List Lexeme) ℕ) (t rest : List Lexeme) → with_lexeme l r ≡ Ok (t, rest) → Continued l r t rest
continued l (Ok p) t rest e = record { more = p.0; read_is = ap (λ z. Ok (p.0, z)) (ok_rest (l ∷ p.0, p.1) (t, rest) e); whole = ok_value (l ∷ p.0, p.1) (t, rest) e }
continued l (Err k) t rest e = cc

got_more : (n m : ℕ) (l : Lexeme) (ls rest t : List Lexeme) (b : Continued l (tail_from m ls) t rest) → may_follow_parameters l ≡ true → ((u : List Lexeme) → is_balanced m u ≡ true → is_balanced n (l ∷ u) ≡ true) → Got m ls rest b.more → Got n (l ∷ ls) rest t
got_more n m l ls rest t b a h g = subst (Got n (l ∷ ls) rest) b.whole (record {
  parts = ap (λ z. l ∷ z) g.parts;
  fits = ((a, g.fits.0), h b.more g.fits.1);
  ends = g.ends;
})

not_zero : (n : ℕ) → (suc n == 0) ≡ false
not_zero n = grind (arith, nat_tests)

end_got : (n : ℕ) (ls rest t : List Lexeme) → may (λ l. not (may_follow_parameters l)) ls ≡ true → tail_end n ls ≡ Ok (t, rest) → Got n ls rest t
end_got zero ls rest t m e = subst (λ z. Got zero ls z t) (ok_rest ([], ls) (t, rest) e) (subst (Got zero ls ls) (ok_value ([], ls) (t, rest) e) (record { parts = refl; fits = (tt, refl); ends = m }))
end_got (suc n) ls rest t m e = let stopped : tail_end (suc n) ls ≡ Err (length ls) = (let z = not_zero n in rw z refl) in let no = sym stopped ∙ e in absurd (err_ok no)

opened : (n : ℕ) (l : Lexeme) (h : (n : ℕ) (t : List Lexeme) → is_balanced n (l ∷ t) ≡ is_balanced (n + 1) t) (u : List Lexeme) → is_balanced (suc n) u ≡ true → is_balanced n (l ∷ u) ≡ true
opened n l h u e = h n u ∙ ap (λ z. is_balanced z u) (add-one n) ∙ e

closed : (n : ℕ) (l : Lexeme) (h : (n : ℕ) (t : List Lexeme) → is_balanced n (l ∷ t) ≡ (nat_lt 0 n && is_balanced (n - 1) t)) (u : List Lexeme) → is_balanced n u ≡ true → is_balanced (suc n) (l ∷ u) ≡ true
closed n l h u e =
    let positive : nat_lt 0 (suc n) ≡ true = grind (arith, nat_tests) in
    let less : suc n - 1 ≡ n = omega arith in
    h (suc n) u ∙ ap (λ z. z && is_balanced (suc n - 1) u) positive ∙ ap (λ z. is_balanced z u) less ∙ e

got : (ts : List Lexeme) (n : ℕ) (rest t : List Lexeme) → tail_from n ts ≡ Ok (t, rest) → Got n ts rest t
got [] n rest t e = end_got n [] rest t refl (sym (no_more n) ∙ e)
got (l ∷ ls) n rest t e = by_place (place_of l) refl (says l) n e (λ m u g. got ls m rest u g)
  where
    by_place : (p : Place) → place_of l ≡ p → Says l p → (n : ℕ) → tail_from n (l ∷ ls) ≡ Ok (t, rest) → ((m : ℕ) (u : List Lexeme) → tail_from m ls ≡ Ok (u, rest) → Got m ls rest u) → Got n (l ∷ ls) rest t
    by_place opens p (says_opens a h) n e hyp =
        let b = continued l (tail_from (suc n) ls) t rest (sym (step_opens l ls n p) ∙ e) in
        got_more n (suc n) l ls rest t b a (opened n l h) (hyp (suc n) b.more b.read_is)
    by_place closes p (says_closes a h) zero e hyp = absurd (err_ok (sym (step_closed l ls p) ∙ e))
    by_place closes p (says_closes a h) (suc n) e hyp =
        let b = continued l (tail_from n ls) t rest (sym (step_closes l ls n p) ∙ e) in
        got_more (suc n) n l ls rest t b a (closed n l h) (hyp n b.more b.read_is)
    by_place stands p (says_stands a h) n e hyp =
        let b = continued l (tail_from n ls) t rest (sym (step_stands l ls n p) ∙ e) in
        got_more n n l ls rest t b a (λ u k. h n u ∙ k) (hyp n b.more b.read_is)
    by_place leaves p (says_leaves a) n e hyp = end_got n (l ∷ ls) rest t (ap not a) (sym (step_leaves l ls n p) ∙ e)

-- read again

end_again : (rest : List Lexeme) → may (λ l. not (may_follow_parameters l)) rest ≡ true → tail_from 0 rest ≡ Ok ([], rest)
end_again [] m = no_more 0
end_again (l ∷ ls) m = by_place (place_of l) refl (says l)
  where
    by_place : (p : Place) → place_of l ≡ p → Says l p → tail_from 0 (l ∷ ls) ≡ Ok ([], l ∷ ls)
    by_place opens p (says_opens a h) = absurd (true≢false (sym m ∙ ap not a))
    by_place closes p (says_closes a h) = absurd (true≢false (sym m ∙ ap not a))
    by_place stands p (says_stands a h) = absurd (true≢false (sym m ∙ ap not a))
    by_place leaves p (says_leaves a) = step_leaves l ls 0 p

again : (t : List Lexeme) (n : ℕ) (rest : List Lexeme) → TailFits n t → may (λ l. not (may_follow_parameters l)) rest ≡ true → tail_from n (t ++ rest) ≡ Ok (t, rest)
again [] zero rest f m = end_again rest m
again [] (suc n) rest f m = let no : (suc n == 0) ≡ true = f.1 in absurd (true≢false (sym no ∙ not_zero n))
again (l ∷ t) n rest f m = by_place (place_of l) refl (says l) n f.1 (λ k b. again t k rest (f.0.1, b) m)
  where
    by_place : (p : Place) → place_of l ≡ p → Says l p → (n : ℕ) → is_balanced n (l ∷ t) ≡ true → ((k : ℕ) → is_balanced k t ≡ true → tail_from k (t ++ rest) ≡ Ok (t, rest)) → tail_from n (l ∷ (t ++ rest)) ≡ Ok (l ∷ t, rest)
    by_place opens p (says_opens a h) n b hyp =
        step_opens l (t ++ rest) n p ∙ ap (with_lexeme l) (hyp (suc n) (ap (λ z. is_balanced z t) (sym (add-one n)) ∙ sym (h n t) ∙ b))
    by_place closes p (says_closes a h) zero b hyp = let no : (nat_lt 0 zero && is_balanced (zero - 1) t) ≡ true = sym (h zero t) ∙ b in absurd (true≢false (sym (and_parts (nat_lt 0 zero) (is_balanced (zero - 1) t) no).0))
    by_place closes p (says_closes a h) (suc n) b hyp =
        let less : suc n - 1 ≡ n = omega arith in
        let kept = and_parts (nat_lt 0 (suc n)) (is_balanced (suc n - 1) t) (sym (h (suc n) t) ∙ b) in
        step_closes l (t ++ rest) n p ∙ ap (with_lexeme l) (hyp n (ap (λ z. is_balanced z t) (sym less) ∙ kept.1))
    by_place stands p (says_stands a h) n b hyp = step_stands l (t ++ rest) n p ∙ ap (with_lexeme l) (hyp n (sym (h n t) ∙ b))
    by_place leaves p (says_leaves a) n b hyp = let no : may_follow_parameters l ≡ true = f.0.0 in absurd (true≢false (sym no ∙ a))

-- where it stops

abbrev closing : ℕ → List Lexeme
closing n = replicate n (mark (byte ")"))

closing_fits : (n : ℕ) → TailFits n (closing n)
closing_fits zero = (tt, refl)
closing_fits (suc n) =
    let less : suc n - 1 ≡ n = omega arith in
    let positive : nat_lt 0 (suc n) ≡ true = grind (arith, nat_tests) in
    let f = closing_fits n in
    ((refl, f.0), ap (λ z. z && is_balanced (suc n - 1) (closing n)) positive ∙ ap (λ z. is_balanced z (closing n)) less ∙ f.1)

abbrev StopsTail : ℕ → List Lexeme → ℕ → Type 0
StopsTail n ts k = Stops (tail_from n) (λ t. t) (TailFits n) ts k

unfinished_tail : (n : ℕ) (k : ℕ) → tail_end n [] ≡ Err k → StopsTail n [] k
unfinished_tail zero k e = let no = sym e in absurd (err_ok no)
unfinished_tail (suc n) k e =
    let stopped : tail_end (suc n) [] ≡ Err 0 = (let z = not_zero n in rw z refl) in
    let same = err_same (sym stopped ∙ e) in
    record { prefix = []; back = []; parts = refl; left = same; value = closing (suc n); fits = closing_fits (suc n); more = closing (suc n); viable = refl; firm = λ b rest other h. cc }

bad_here : (n : ℕ) (l : Lexeme) (ls : List Lexeme) (k : ℕ) → suc (length ls) ≡ k → ((other : List Lexeme) → tail_from n (l ∷ other) ≡ Err (suc (length other))) → StopsTail n (l ∷ ls) k
bad_here n l ls k e h = record {
  prefix = [];
  back = l ∷ ls;
  parts = refl;
  left = e;
  value = closing n;
  fits = closing_fits n;
  more = closing n;
  viable = refl;
  firm = λ b rest other q. (let same : l ≡ b = cc in ap (λ z. tail_from n (z ∷ other)) (sym same) ∙ h other);
}

later : (n m : ℕ) (l : Lexeme) (ls : List Lexeme) (k : ℕ) → may_follow_parameters l ≡ true → ((u : List Lexeme) → is_balanced m u ≡ true → is_balanced n (l ∷ u) ≡ true) → ((us : List Lexeme) → tail_from n (l ∷ us) ≡ with_lexeme l (tail_from m us)) → StopsTail m ls k → StopsTail n (l ∷ ls) k
later n m l ls k a h step s = record {
  prefix = l ∷ s.prefix;
  back = s.back;
  parts = ap (λ z. l ∷ z) s.parts;
  left = s.left;
  value = l ∷ s.value;
  fits = ((a, s.fits.0), h s.value s.fits.1);
  more = s.more;
  viable = ap (λ z. l ∷ z) s.viable;
  firm = λ b rest other q. step (s.prefix ++ (b ∷ other)) ∙ ap (with_lexeme l) (s.firm b rest other q);
}

stops : (ts : List Lexeme) (n k : ℕ) → tail_from n ts ≡ Err k → StopsTail n ts k
stops [] n k e = unfinished_tail n k (sym (no_more n) ∙ e)
stops (l ∷ ls) n k e = by_place (place_of l) refl (says l) n e (λ m q. stops ls m k q)
  where
    after_err : (r : Result (List Lexeme × List Lexeme) ℕ) → with_lexeme l r ≡ Err k → r ≡ Err k
    after_err r q = made_err r (λ p. (l ∷ p.0, p.1)) k q

    by_place : (p : Place) → place_of l ≡ p → Says l p → (n : ℕ) → tail_from n (l ∷ ls) ≡ Err k → ((m : ℕ) → tail_from m ls ≡ Err k → StopsTail m ls k) → StopsTail n (l ∷ ls) k
    by_place opens p (says_opens a h) n e hyp =
        later n (suc n) l ls k a (opened n l h) (λ us. step_opens l us n p) (hyp (suc n) (after_err (tail_from (suc n) ls) (sym (step_opens l ls n p) ∙ e)))
    by_place closes p (says_closes a h) zero e hyp =
        let same = err_same (sym (step_closed l ls p) ∙ e) in
        bad_here zero l ls k same (λ other. step_closed l other p)
    by_place closes p (says_closes a h) (suc n) e hyp =
        later (suc n) n l ls k a (closed n l h) (λ us. step_closes l us n p) (hyp n (after_err (tail_from n ls) (sym (step_closes l ls n p) ∙ e)))
    by_place stands p (says_stands a h) n e hyp =
        later n n l ls k a (λ u q. h n u ∙ q) (λ us. step_stands l us n p) (hyp n (after_err (tail_from n ls) (sym (step_stands l ls n p) ∙ e)))
    by_place leaves p (says_leaves a) zero e hyp = absurd (err_ok (sym e ∙ step_leaves l ls zero p))
    by_place leaves p (says_leaves a) (suc n) e hyp =
        let stopped : (us : List Lexeme) → tail_from (suc n) (l ∷ us) ≡ Err (suc (length us)) = λ us. (let z = not_zero n in step_leaves l us (suc n) p ∙ rw z refl) in
        let same = err_same (sym (stopped ls) ∙ e) in
        bad_here (suc n) l ls k same stopped

pub tail_exact : (n : ℕ) → Exact (tail_from n) (λ t. t) (TailFits n) tail_follow
tail_exact n = record {
  sound = λ ts rest t e. (got ts n rest t e).parts;
  fits = λ ts rest t e. (got ts n rest t e).fits;
  ends = λ ts rest t e. (got ts n rest t e).ends;
  again = λ t rest f m. again t n rest f m;
  stops = λ ts k e. stops ts n k e;
  some = closing n;
  some_fits = closing_fits n;
}

-- one lexeme after another, by how many parentheses are open

abbrev Next : ℕ → Lexeme → List Lexeme → Option ℕ → Type 0
Next n l ls None = tail_from n (l ∷ ls) ≡ Err (suc (length ls))
Next n l ls (Some m) = tail_from n (l ∷ ls) ≡ with_lexeme l (tail_from m ls)

next_mark : (c n : ℕ) (ls : List Lexeme) → may_follow_parameters (mark c) ≡ true → Next n (mark c) ls (open_after n (mark c))
next_mark c n ls f = go (c == byte "(") refl (c == byte ")") refl
  where
    closes_by : (n : ℕ) → (c == byte "(") ≡ false → (c == byte ")") ≡ true → Next n (mark c) ls (if n == 0 then None else Some (n - 1))
    closes_by zero a b = step_closed (mark c) ls (rw (a, b) refl)
    closes_by (suc m) a b =
        let z = not_zero m in
        let less : suc m - 1 ≡ m = omega arith in
        let e : (if suc m == 0 then None else Some (suc m - 1)) ≡ Some m = rw (z, less) refl in
        subst (Next (suc m) (mark c) ls) (sym e) (step_closes (mark c) ls m (rw (a, b) refl))

    go : (a : Bool) → (c == byte "(") ≡ a → (b : Bool) → (c == byte ")") ≡ b → Next n (mark c) ls (open_after n (mark c))
    go true a b q =
        let e : open_after n (mark c) ≡ Some (n + 1) = rw a refl in
        subst (Next n (mark c) ls) (sym e) (step_opens (mark c) ls n (rw a refl) ∙ ap (λ z. with_lexeme (mark c) (tail_from z ls)) (sym (add-one n)))
    go false a true b =
        let e : open_after n (mark c) ≡ (if n == 0 then None else Some (n - 1)) = rw (a, b) refl in
        subst (Next n (mark c) ls) (sym e) (closes_by n a b)
    go false a false b =
        let e : open_after n (mark c) ≡ Some n = rw (a, b) refl in
        subst (Next n (mark c) ls) (sym e) (step_stands (mark c) ls n (rw (a, b, f) refl))

next : (l : Lexeme) (n : ℕ) (ls : List Lexeme) → may_follow_parameters l ≡ true → Next n l ls (open_after n l)
next (local x) n ls f = step_stands (local x) ls n refl
next (global x) n ls f = step_stands (global x) ls n refl
next (label x) n ls f = step_stands (label x) ls n refl
next nameless_local n ls f = step_stands nameless_local ls n refl
next nameless_global n ls f = step_stands nameless_global ls n refl
next nameless_label n ls f = step_stands nameless_label ls n refl
next (metadata x) n ls f = cc
next (group x) n ls f = step_stands (group x) ls n refl
next (number x) n ls f = step_stands (number x) ls n refl
next (word x) n ls f = step_stands (word x) ls n refl
next string n ls f = step_stands string ls n refl
next (mark c) n ls f = next_mark c n ls f
next other n ls f = cc

pub tail_more : (l : Lexeme) (n m : ℕ) (ls : List Lexeme) → may_follow_parameters l ≡ true → open_after n l ≡ Some m → tail_from n (l ∷ ls) ≡ with_lexeme l (tail_from m ls)
tail_more l n m ls f e = subst (Next n l ls) e (next l n ls f)

pub tail_closed : (l : Lexeme) (n : ℕ) (ls : List Lexeme) → may_follow_parameters l ≡ true → open_after n l ≡ None → tail_from n (l ∷ ls) ≡ Err (suc (length ls))
tail_closed l n ls f e = subst (Next n l ls) e (next l n ls f)

pub tail_done : (ts : List Lexeme) (n : ℕ) → next_passes may_follow_parameters ts ≡ false → tail_from n ts ≡ tail_end n ts
tail_done [] n e = no_more n
tail_done (l ∷ ls) n e = by_place (place_of l) refl (says l)
  where
    by_place : (p : Place) → place_of l ≡ p → Says l p → tail_from n (l ∷ ls) ≡ tail_end n (l ∷ ls)
    by_place opens p (says_opens a h) = absurd (true≢false (sym a ∙ e))
    by_place closes p (says_closes a h) = absurd (true≢false (sym a ∙ e))
    by_place stands p (says_stands a h) = absurd (true≢false (sym a ∙ e))
    by_place leaves p (says_leaves a) = step_leaves l ls n p
