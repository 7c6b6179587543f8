use Rattle.std.proofs.Common.{◌≡◌, length, map, nat_eq, sym, ◌∙◌, ap}
use Rattle.std.proofs.lemmas.List.{length-map}
use Rattle.std.proofs.lemmas.Map.Made.{IsDistinct-from_AllPairs, AllPairs-from_IsDistinct, hash_set_len-Decides}
use Rattle.std.specs.Cmp.{nat_eq_equiv, unsigned_Decides}
use Rattle.std.specs.HashSet.{hash_set_len}
use Rattle.vfa_check.proofs.types.are_distinct.Goals as goal

pub returns : goal.returns
returns c =
    let xs = map (λ e. e.0) c.args.cases.now in
    let decides = hash_set_len-Decides unsigned_Decides nat_eq_equiv xs c.in_ok-numbers.numbers c.in_ok-numbers.ensures in
    let long : length xs ≡ length c.args.cases.now = length-map c.args.cases.now _ in
    let many : c.len.result ≡ hash_set_len c.in_ok-numbers.numbers = c.len.ensures.len in
    let same : nat_eq c.len.result (length c.args.cases.now) ≡ nat_eq (hash_set_len c.in_ok-numbers.numbers) (length xs) =
    ap (λ n. nat_eq n (length c.args.cases.now)) many ∙ ap (nat_eq (hash_set_len c.in_ok-numbers.numbers)) (sym long) in (
      λ h. IsDistinct-from_AllPairs unsigned_Decides xs (decides.0 (sym same ∙ h)),
      λ d. same ∙ decides.1 (AllPairs-from_IsDistinct unsigned_Decides xs d),
    )
