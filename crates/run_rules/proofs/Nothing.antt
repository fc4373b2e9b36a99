-- A run that has no items yet.
use Rattle.std.proofs.Common.{◌≡◌, ℕ, zero, suc, ◌≤◌, min, [], Some, refl, arith}
use Rattle.std.specs.List.{slice_get}
use Rattle.trace_text.specs.declared.item.TraceItem.{TraceItem}
use Rattle.script_lang.specs.Script.{ScriptValue}
use Rattle.run_rules.specs.Follows.{Follows, ByLine, above}
use Rattle.run_rules.specs.Laws.{NothingFollows, NothingIsLegal}

pub nothing_is_legal : NothingIsLegal
nothing_is_legal t zero below = tt
nothing_is_legal t (suc n) below = tt

none_at : {A : Type 0} (p : ℕ) (x : A) → slice_get [] p ≡ Some x → ⊥
none_at p x is = cc

min_none : (n : ℕ) → min n 0 ≤ 0
min_none n = omega arith

follows_none : (s : ScriptValue) → Follows [] s
follows_none s = record {
  in_order = λ client. refl;
  on_node = λ p it is. absurd (none_at p it is);
  waits = λ l p client barrier is is_barrier above' more client'. let m = min_none (above s client' l) in omega (arith, m);
  start = λ p it is low. absurd (none_at p it is);
  order = λ p. ByLine 0;
  crashes = λ p node is. absurd (none_at p _ is);
  joins = λ p node is start. absurd (none_at p _ is);
  once = λ p q node is also same. absurd (none_at p _ is);
  once_joined = λ p q i j is also start starts same. absurd (none_at p _ is);
  armed = λ p k a is write. absurd (none_at p _ write.1);
  place = λ l. 0;
  placed = λ l order_line is is_order below. absurd (omega (arith, below.1));
  rising = λ l later before below. omega arith;
}

pub nothing_follows : NothingFollows
nothing_follows s = record {
  follows = follows_none s;
  numbered = λ p node client number call reply is. absurd (none_at p _ is);
  synced = λ p q node client number kept before is lost. absurd (none_at p _ is);
}
