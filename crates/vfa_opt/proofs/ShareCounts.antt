-- Shares of one size, of which the last may be shorter, are as many as workers at most.
use Rattle.std.proofs.Common.{◌≡◌, ◌<◌, ◌≤◌, ◌+◌, ◌*◌, ◌⊎◌, ◌∙◌, inl, inr, ℕ, min, ⊎_elim, ap, arith}
use Rattle.std.proofs.Math.Nat.{mul-le-mul_right}
use Rattle.std.proofs.lemmas.Bool.{cases_lt}
use native.Mathlib.Nat.{add-mul, one-mul}

-- so many whole shares and a rest, or all shares and no rest
pub record CutsSo (size all workers count rest : ℕ) : Type 0 where
  pub few : count ≤ workers
  pub cut : (rest ≡ 0) ⊎ (count * size + rest ≡ all)

pub cut_none : (size all workers count rest : ℕ) → count ≡ 0 → rest ≡ all → CutsSo size all workers count rest
cut_none size all workers count rest none whole = record {
  few = omega (arith, none);
  cut = inr (let e : count * size ≡ 0 * size = ap (λ n. n * size) none in omega (arith, e, whole));
}

room_for : (size all workers count rest : ℕ) → all ≤ size * workers → 0 < rest → count * size + rest ≡ all → count < workers
room_for size all workers count rest holds some cut =
    ⊎_elim (λ lt. lt) (λ le. let more : workers * size ≤ count * size = mul-le-mul_right size le in omega (arith, more, holds, some, cut)) (cases_lt count workers)

-- one share more
pub cut_more : (size all workers count next rest left share : ℕ) → all ≤ size * workers → next ≡ count + 1 → share ≡ min size rest → 0 < rest →
    rest ≡ share + left → CutsSo size all workers count rest → CutsSo size all workers next left
cut_more size all workers count next rest left share holds one is some parts c = at c.cut
  where
    at : (rest ≡ 0) ⊎ (count * size + rest ≡ all) → CutsSo size all workers next left
    at (inl none) = absurd (let no : ⊥ = omega (arith, none, some) in no)
    at (inr cut) =
        let room : count < workers = room_for size all workers count rest holds some cut in record {
          few = omega (arith, room, one);
          cut = ⊎_elim
              (λ short. inl (omega (arith, short, is, parts)))
              (λ whole. inr (let e : next * size ≡ count * size + 1 * size = ap (λ n. n * size) one ∙ add-mul count 1 size in
              let o : 1 * size ≡ size = one-mul size in omega (arith, e, o, whole, is, parts, cut)))
              (cases_lt rest size);
        }
