-- Blocks that are found, and entries that stand in lists.
use Rattle.std.proofs.Common.{◌≡◌, ℕ, zero, suc, Option, Some, None, List, [], ◌∷◌, refl}
use Rattle.std.specs.Prelude.{slice_get}
use Rattle.std.specs.Option.{ForSome, option_map}
use Rattle.std.proofs.lemmas.List.Elements.{All-head, All-tail}
use Rattle.vfa_ir.specs.declared.operations.Ty.{Ty}
use Rattle.vfa_ir.specs.declared.functions.Block.{Block}
use Rattle.vfa_ir.specs.declared.functions.Function.{Function}
use Rattle.vfa_cfg.specs.declared.listing.Edge.{Edge}
use Rattle.vfa_values.specs.Answers.{Answers}
use Rattle.vfa_cond.specs.States.{AbstractState, Stored, known}
use Rattle.vfa_walk.specs.Kept.{AreStates, IsStateOf, entry_in, kept_entries}
use Rattle.vfa_walk.specs.Leaving.{along_edge, along_way, phis_of}
use Rattle.vfa_walk.specs.Stepping.{insts_of}

module _ (f : Function) (b : ℕ) where
  pub insts_found : (block : Block) → slice_get f.blocks b ≡ Some block → insts_of f b ≡ block.insts
  insts_found block e = rw (e, insts_of) refl

  pub no_insts : slice_get f.blocks b ≡ None → insts_of f b ≡ []
  no_insts e = rw (e, insts_of) refl

  pub phis_found : (block : Block) → slice_get f.blocks b ≡ Some block → phis_of f b ≡ block.phis
  phis_found block e = rw (e, phis_of) refl

  pub no_phis : slice_get f.blocks b ≡ None → phis_of f b ≡ []
  no_phis e = rw (e, phis_of) refl

module _ {V : Type 0} (answers : Answers V) (f : Function) (e : Edge) (s : AbstractState V) where
  pub edge_found : (block : Block) → slice_get f.blocks e.from.0 ≡ Some block → along_edge answers f e s ≡ along_way answers f block.term e.way s
  edge_found block is = rw (is, along_edge) refl

  pub no_edge : slice_get f.blocks e.from.0 ≡ None → along_edge answers f e s ≡ Some s
  no_edge is = rw (is, along_edge) refl

module _ {V : Type 0} where
  pub kept_is : (list : List (Option (Stored V))) (b : ℕ) → kept_entries list b ≡ option_map known (entry_in list b)
  kept_is [] b = refl
  kept_is (e ∷ list) zero = refl
  kept_is (e ∷ list) (suc b) = kept_is list b

  pub stored_state : (ty : V → Ty) (proper : V → Type 0) (f : Function) (list : List (Option (Stored V))) (b : ℕ) → AreStates ty proper f list →
      ForSome (entry_in list b) (IsStateOf ty proper f)
  stored_state ty proper f [] b all = λ d e. cc
  stored_state ty proper f (e ∷ list) zero all = All-head (λ o. ForSome o (IsStateOf ty proper f)) e list all
  stored_state ty proper f (e ∷ list) (suc b) all = stored_state ty proper f list b (All-tail (λ o. ForSome o (IsStateOf ty proper f)) e list all)
