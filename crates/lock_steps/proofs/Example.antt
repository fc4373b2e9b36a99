-- A list of calls that can be made.
use Rattle.std.proofs.Common.{ℕ, ◌≡◌, refl, ap, [], ◌∷◌, None, Some, arith}
use Rattle.std.specs.Prelude.{◌%◌, slice_get}
use Rattle.std.proofs.Math.Nat.{mod-one}
use Rattle.dlm_modes.specs.Modes.{not_valid}
use Rattle.dlm_modes.specs.declared.Mode.TheVariants as mode
use Rattle.lock_laws.specs.Lock.{Ex, Sh, Un}
use Rattle.mail_queues.specs.declared.Body.{Body}
use Rattle.mail_queues.specs.declared.Body.TheVariants.{Report, End}
use Rattle.mail_queues.specs.declared.Message.{Message}
use Rattle.lock_steps.specs.Calls.{Acts, Asks, IsGranted, Lowers, Requested, Lowered, Reported, Ended, Completes, Blocks, TellsItself, Stops, Fences, Changes, TakesView, IsRecovered, NoAsk, TellsHeld}
use Rattle.lock_steps.specs.Laws.{Begins, OfMail, OfHolder, OfTable, OfMembers, NoCall, AndCall}
use Rattle.lock_steps.proofs.Sets.{zero-has}
use Rattle.lock_steps.specs.Example.{a_lock, two_nodes, ListCanBeMade}

begins : Begins a_lock two_nodes
begins = record {
  master = omega arith;
  holders = λ k x. refl;
  table = refl;
  members = λ k x. refl;
  ended = λ k x. refl;
  fresh = λ k x. refl;
  taken = λ k x. refl;
  mail = λ i k x y. refl;
}

acts : Acts two_nodes 0
acts = record { node = omega arith; member = refl; settled = refl; taken = refl; runs = refl }

-- where one node alone is a member, it is the master of every lock
alone : (n : ℕ) → slice_get {X = ℕ} (0 ∷ []) (n % 1) ≡ Some 0
alone n = ap (λ (i : ℕ). slice_get {X = ℕ} (0 ∷ []) i) (mod-one n)

-- a message of the second view
abbrev says : Body → Message
says body = record { generation = 2; body = body }

pub can-be-made : ListCanBeMade
can-be-made = (
  _,
  _,
  begins,
  AndCall _ _ (AndCall _ _ (AndCall _ _ (AndCall _ _ (AndCall _ _ NoCall
      (OfHolder _ (Asks 0 Ex acts (record { nothing = refl; idle = refl }))))
      (OfMail _ (TellsItself 0 _ [] (omega arith) refl refl)))
      (OfTable _ (Requested 0 mode.Ex [] (omega arith) refl refl refl (λ e k x w. w))))
      (OfMail _ (TellsItself 0 _ [] (omega arith) refl refl)))
      (OfHolder _ (IsGranted 0 mode.Ex not_valid [] (record { node = omega arith; member = refl; settled = refl; taken = refl; runs = refl }) (λ k x. zero-has k) refl)),
  refl,
  AndCall _ _ (AndCall _ _ (AndCall _ _ (AndCall _ _ (AndCall _ _ (AndCall _ _ (AndCall _ _ (AndCall _ _ (AndCall _ _ (AndCall _ _ (AndCall _ _
      (AndCall _ _ (AndCall _ _ (AndCall _ _ (AndCall _ _ (AndCall _ _ (AndCall _ _ (AndCall _ _ (AndCall _ _ NoCall
      (OfMembers _ (Stops 1 (omega arith))))
      (OfMembers _ (Fences 1)))
      (OfMembers _ (Changes 0 (omega arith) (alone _))))
      (OfMembers _ (TakesView 0 _ (says (Report a_lock mode.Ex not_valid) ∷ says End ∷ []) (NoAsk refl) (omega arith) refl refl refl (omega arith, (omega arith, tt)) (TellsHeld refl) refl)))
      (OfMail _ (TellsItself 0 _ (says End ∷ []) (omega arith) refl refl)))
      (OfMail _ (TellsItself 0 _ [] (omega arith) refl refl)))
      (OfTable _ (Reported 0 mode.Ex not_valid (says End ∷ []) (omega arith) refl refl refl)))
      (OfTable _ (Ended 0 [] (omega arith) refl)))
      (OfTable _ (Completes refl)))
      (OfMembers _ (IsRecovered 1 (omega arith) refl)))
      (OfTable _ (Blocks 0)))
      (OfHolder _ (Lowers 0 Un None (record { node = omega arith; member = refl; settled = refl; taken = refl; runs = refl }) refl (λ e. absurd (let f : mode.Ex ≡ mode.Nl = e in cc)) refl)))
      (OfMail _ (TellsItself 0 _ [] (omega arith) refl refl)))
      (OfTable _ (Lowered 0 mode.Nl None [] (omega arith) refl refl refl)))
      (OfHolder _ (Asks 0 Sh (record { node = omega arith; member = refl; settled = refl; taken = refl; runs = refl }) (record { nothing = refl; idle = refl }))))
      (OfMail _ (TellsItself 0 _ [] (omega arith) refl refl)))
      (OfTable _ (Requested 0 mode.Pr [] (omega arith) refl refl refl (λ e k x w. w))))
      (OfMail _ (TellsItself 0 _ [] (omega arith) refl refl)))
      (OfHolder _ (IsGranted 0 mode.Pr not_valid [] (record { node = omega arith; member = refl; settled = refl; taken = refl; runs = refl }) (λ k x. zero-has k) refl)),
  refl,
  refl,
  refl,
)
