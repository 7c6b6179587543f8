-- Marks of numbers, one element after another.
use Rattle.std.proofs.Common.{◌≡◌, ℕ, zero, suc, ◌+◌, ◌<◌, Bool, true, ◌||◌, nat_eq, List, [], ◌∷◌, take, get_or, length, refl, sym, ap, ◌∙◌, subst, arith}
use Rattle.std.proofs.Math.Bool.{or_assoc}
use Rattle.std.proofs.lemmas.List.{take_more}
use Rattle.std.proofs.lemmas.List.Elements.{filter_map-append}
use Rattle.std.proofs.lemmas.List.Folds.{list_any-append}
use Rattle.vfa_ir.specs.declared.operations.BlockId.{BlockId}
use Rattle.vfa_ir.specs.declared.functions.Inst.{Inst}
use Rattle.vfa_ir.specs.Printable.{call_place}
use Rattle.vfa_ir.specs.Walks.{is_in}
use Rattle.vfa_cfg.specs.Order.{numbers}
use Rattle.vfa_mean.specs.Kept.{inst_call_places, is_marked}
use Rattle.vfa_mean.proofs.FreshOperands.Definitions.{in_first, in_rest}
use Rattle.vfa_bits.specs.Noting.{AreMarked}

pub marked_alike : (p q : ℕ → Bool) (a b : List Bool) → ((n : ℕ) → p n ≡ q n) → AreMarked p a b → AreMarked q a b
marked_alike p q a b same are = record { whole = are.whole; each = λ n l. are.each n l ∙ ap (λ m. is_marked a n || m) (same n) }

pub marked_then : (p q : ℕ → Bool) (a b c : List Bool) → AreMarked p a b → AreMarked q b c → AreMarked (λ n. p n || q n) a c
marked_then p q a b c one two = record {
  whole = two.whole ∙ one.whole;
  each = λ n l. two.each n (subst (λ k. n < k) (sym one.whole) l) ∙ ap (λ m. m || q n) (one.each n l) ∙ or_assoc (is_marked a n) (p n) (q n);
}

-- ---- lists of numbers

pub number_in : (blocks : List BlockId) (i : ℕ) (d : BlockId) → i < length blocks → is_in (get_or blocks i d).0 (numbers blocks) ≡ true
number_in [] i d l = absurd (omega (arith, l))
number_in (b ∷ blocks) zero d l = in_first b.0 b.0 (numbers blocks) refl
number_in (b ∷ blocks) (suc i) d l = in_rest (get_or blocks i d).0 b.0 (numbers blocks) (number_in blocks i d (omega (arith, l)))

calls_more : (insts : List Inst) (i place : ℕ) (d : Inst) → i < length insts →
    (is_in place (inst_call_places (take i insts)) || is_in place (inst_call_places (get_or insts i d ∷ []))) ≡ is_in place (inst_call_places (take (i + 1) insts))
calls_more insts i place d l =
    sym (ap (λ xs. is_in place (inst_call_places xs)) (take_more insts i d l)
    ∙ ap (is_in place) (filter_map-append (λ (n : Inst). call_place n.op) (take i insts) (get_or insts i d ∷ []))
    ∙ list_any-append (nat_eq place) (inst_call_places (take i insts)) (inst_call_places (get_or insts i d ∷ [])))

pub calls_marked : (insts : List Inst) (i : ℕ) (d : Inst) (a b c : List Bool) → i < length insts → AreMarked (λ place. is_in place (inst_call_places (take i insts))) a b →
    AreMarked (λ place. is_in place (inst_call_places (get_or insts i d ∷ []))) b c → AreMarked (λ place. is_in place (inst_call_places (take (i + 1) insts))) a c
calls_marked insts i d a b c l one two =
    marked_alike (λ place. is_in place (inst_call_places (take i insts)) || is_in place (inst_call_places (get_or insts i d ∷ [])))
    (λ place. is_in place (inst_call_places (take (i + 1) insts))) a c (λ place. calls_more insts i place d l)
    (marked_then (λ place. is_in place (inst_call_places (take i insts))) (λ place. is_in place (inst_call_places (get_or insts i d ∷ []))) a b c one two)
