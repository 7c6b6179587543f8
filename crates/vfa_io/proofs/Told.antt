-- Lemmas on the bytes that sources and sinks tell.
use Rattle.std.proofs.Common.{◌≡◌, ℕ, ◌+◌, ◌<◌, List, ◌++◌, Option, None, Some, IfSome, sym, ap, subst, ◌∙◌, append_assoc, length, take, drop, take-append-drop, arith, length-append}
use Rattle.std.proofs.Math.Seq.{take-add, take-append_seam}
use Rattle.std.proofs.lemmas.List.{drop-drop}
use Rattle.std.specs.Io.KnownBytes.{Appends, Keeps}
use Rattle.vfa_io.specs.Bytes.{Gave, GotPrefix}

-- what was written stays where nothing more is
pub Appends-kept : (a b c : Option (List ℕ)) (bytes : List ℕ) → Appends a b bytes → Keeps b c → Appends a c bytes
Appends-kept None b c bytes p q = tt
Appends-kept (Some x) None c bytes p q = absurd p
Appends-kept (Some x) (Some y) None bytes p q = absurd q
Appends-kept (Some x) (Some y) (Some z) bytes p q = q ∙ p

-- two writes, one after the other
pub Appends-more : (a b c : Option (List ℕ)) (bytes rest : List ℕ) (n m : ℕ) → rest ≡ drop n bytes → Appends a b (take n bytes) → Appends b c (take m rest) → Appends a c (take (n + m) bytes)
Appends-more None b c bytes rest n m e p q = tt
Appends-more (Some x) None c bytes rest n m e p q = absurd p
Appends-more (Some x) (Some y) None bytes rest n m e p q = absurd q
Appends-more (Some x) (Some y) (Some z) bytes rest n m e p q =
    q ∙ ap (λ l. l ++ take m rest) p ∙ append_assoc x (take n bytes) (take m rest) ∙ ap (λ l. x ++ l) (ap (λ l. take n bytes ++ take m l) e ∙ sym (take-add n m bytes))

-- a prefix of the bytes was written, and then nothing more
pub prefix_written : (a b c : Option (List ℕ)) (bytes : List ℕ) (n : ℕ) → Appends a b (take n bytes) → Keeps b c → GotPrefix a c bytes
prefix_written a b c bytes n p q = (take n bytes, drop n bytes, sym (take-append-drop n bytes), Appends-kept a b c (take n bytes) p q)

-- a prefix of what is left went to the buffer, and the rest is left
pub prefix_given : (n at : ℕ) (bytes front rest : List ℕ) → front ≡ take n (drop at bytes) → length front ≡ n → drop at bytes ≡ take n (front ++ rest) ++ drop (at + n) bytes
prefix_given n at bytes front rest is_front is_length =
    let taken : take n (front ++ rest) ≡ front = subst (λ (k : ℕ). take k (front ++ rest) ≡ front) is_length (take-append_seam front rest) in
    sym (take-append-drop n (drop at bytes))
    ∙ ap (λ l. l ++ drop n (drop at bytes)) (sym is_front ∙ sym taken)
    ∙ ap (λ l. take n (front ++ rest) ++ l) (drop-drop n at bytes)

-- more bytes were given than some number, so more are left at first
pub longer_left : (before now : Option (List ℕ)) (most : ℕ) → Gave before now (λ given. most < length given) → IfSome before (λ all. most < length all)
longer_left None now most g = tt
longer_left (Some all) None most g = absurd (g.1)
longer_left (Some all) (Some rest) most (given, parts, longer) = subst (λ (l : List ℕ). most < length l) (sym parts) (omega (arith, length-append given rest))
