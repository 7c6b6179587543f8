-- Runs through whole blocks: each moment in a block is after an entry of the block, with its phis done, and each entry but
-- the first is after one of another block.
use Rattle.std.proofs.Common.{◌≡◌, ℕ, suc, false, List, length, Option, Some, None, slice_get, refl, arith}
use Rattle.vfa_ir.specs.declared.operations.Op.{Op}
use Rattle.vfa_ir.specs.declared.functions.Block.{Block}
use Rattle.vfa_ir.specs.declared.functions.CallOp.{CallOp}
use Rattle.vfa_ir.specs.declared.functions.Function.{Function}
use Rattle.vfa_ir.specs.declared.functions.Inst.{Inst}
use Rattle.vfa_mean.specs.declared.value.Val.{Val}
use Rattle.vfa_mean.specs.Values.{Env}
use Rattle.vfa_mean.specs.Meaning.{Gave, Gives}
use Rattle.vfa_mean.specs.Moments.{Place, Into, At, Moment, starts, reads, does, calls, leaves, IsLine, IsCallOf, is_call}
use Rattle.vfa_mean.specs.Outcomes.{with_result, after_phis, Edge, exit_of, parameter_types, AreArguments, start_of, breaks_promise, first_block}

-- In block b a run goes from its entry, phis done, to before the instruction of this number.
pub data Through (f : Function) (b : ℕ) (entry : Env) : ℕ → Env → Type 0 where
  enters : Moment f (At b 0) entry → Through f b entry 0 entry
  passes : (block : Block) (i : ℕ) (inst : Inst) (env : Env) (v : Val) → Through f b entry i env
      → IsLine f b block i inst → is_call inst.op ≡ false → Gives inst.op env (Gave v)
      → Through f b entry (suc i) (with_result env inst.result v)
  asks : (block : Block) (i : ℕ) (inst : Inst) (env : Env) (v : Val) (width : Option ℕ) (place : ℕ) (call : CallOp) (answer : Val) → Through f b entry i env
      → IsLine f b block i inst → inst.op ≡ Op.Call width place → IsCallOf f env width place call answer v
      → Through f b entry (suc i) (with_result env inst.result v)

-- From the entry of block p a run goes through its instructions and takes an edge to block b.
pub record Leaves (f : Function) (p : ℕ) (entry : Env) (b : ℕ) (end : Env) : Type 0 where
  pub block : Block
  pub there : slice_get f.blocks p ≡ Some block
  pub through : Through f p entry (length block.insts) end
  pub edge : ℕ
  pub exit : exit_of block.term end ≡ Edge edge b

-- From the entry of block p a run goes to the entry of block b, phis done.
pub record Passes (f : Function) (p : ℕ) (entry : Env) (b : ℕ) (next : Env) : Type 0 where
  pub end : Env
  pub leaves : Leaves f p entry b end
  pub block : Block
  pub there : slice_get f.blocks b ≡ Some block
  pub phis : next ≡ after_phis (Some p) block.phis end end

-- A run begins.
pub record Begins (f : Function) (b : ℕ) (env : Env) : Type 0 where
  pub args : List Val
  pub fit : AreArguments (parameter_types f) args
  pub kept : breaks_promise f.params args ≡ false
  pub is_first : b ≡ first_block
  pub env_is : env ≡ start_of f.params args

-- Runs come to the entry of block b, phis done.
pub data Entered (f : Function) : ℕ → Env → Type 0 where
  begins : (b : ℕ) (block : Block) (env : Env) → Begins f b env → slice_get f.blocks b ≡ Some block
      → Entered f b (after_phis None block.phis env env)
  goes : (p : ℕ) (entry : Env) (b : ℕ) (next : Env) → Entered f p entry → Passes f p entry b next → Entered f b next

-- before phis: how runs come there
abbrev pub Arrives : (f : Function) → Option ℕ → ℕ → Env → Type 0
Arrives f None b env = Begins f b env
Arrives f (Some p) b env = (entry : Env) × Entered f p entry × Leaves f p entry b env

abbrev pub Comes : (f : Function) → Place → Env → Type 0
Comes f (Into p b) env = Arrives f p b env
Comes f (At b i) env = (entry : Env) × Entered f b entry × Through f b entry i env

reading : (f : Function) (p : Option ℕ) (b : ℕ) (block : Block) (env : Env) → Moment f (Into p b) env → slice_get f.blocks b ≡ Some block →
    Arrives f p b env → Entered f b (after_phis p block.phis env env)
reading f None b block env m there comes = begins b block env comes there
reading f (Some p) b block env m there comes =
    goes p comes.0 b (after_phis (Some p) block.phis env env) comes.1
    (record { end = env; leaves = comes.2; block = block; there = there; phis = refl })

pub moment_comes : (f : Function) (place : Place) (env : Env) → Moment f place env → Comes f place env
moment_comes f place env (starts args fit kept) =
    record { args = args; fit = fit; kept = kept; is_first = refl; env_is = refl }
moment_comes f place env (reads p b block old m there) =
    let entry : Env = after_phis p block.phis old old in
    (entry, reading f p b block old m there (moment_comes f (Into p b) old m), enters (reads p b block old m there))
moment_comes f place env (does b block i inst old v m line op gives) =
    let c = moment_comes f (At b i) old m in
    (c.0, c.1, passes block i inst old v c.2 line op gives)
moment_comes f place env (calls b block i inst old v width at call answer m line is of) =
    let c = moment_comes f (At b i) old m in
    (c.0, c.1, asks block i inst old v width at call answer c.2 line is of)
moment_comes f place env (leaves b block old k target m there exit) =
    let c = moment_comes f (At b (length block.insts)) old m in
    (c.0, c.1, record { block = block; there = there; through = c.2; edge = k; exit = exit })

-- each is a moment
pub through_moment : (f : Function) (b : ℕ) (entry : Env) (i : ℕ) (env : Env) → Through f b entry i env → Moment f (At b i) env
through_moment f b entry i env (enters m) = m
through_moment f b entry i env (passes block k inst old v t line op gives) =
    does b block k inst old v (through_moment f b entry k old t) line op gives
through_moment f b entry i env (asks block k inst old v width at call answer t line is of) =
    calls b block k inst old v width at call answer (through_moment f b entry k old t) line is of

-- ---- what is known of the entry

pub through_start : (f : Function) (b : ℕ) (entry : Env) (i : ℕ) (env : Env) → Through f b entry i env → Moment f (At b 0) entry
through_start f b entry i env (enters m) = m
through_start f b entry i env (passes block k inst old v t line op gives) = through_start f b entry k old t
through_start f b entry i env (asks block k inst old v width at call answer t line is of) = through_start f b entry k old t

pub through_none : (f : Function) (b : ℕ) (entry : Env) (i : ℕ) (env : Env) → Through f b entry i env → i ≡ 0 → entry ≡ env
through_none f b entry i env (enters m) zero_is = refl
through_none f b entry i env (passes block k inst old v t line op gives) zero_is = absurd (omega arith)
through_none f b entry i env (asks block k inst old v width at call answer t line is of) zero_is = absurd (omega arith)

pub record IsBlockOf (f : Function) (b : ℕ) : Type 0 where
  pub block : Block
  pub there : slice_get f.blocks b ≡ Some block

pub entered_block : (f : Function) (b : ℕ) (env : Env) → Entered f b env → IsBlockOf f b
entered_block f b env (begins c block old run there) = record { block = block; there = there }
entered_block f b env (goes p entry c next entered run) = record { block = run.block; there = run.there }
