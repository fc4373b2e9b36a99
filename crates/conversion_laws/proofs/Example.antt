-- A list of calls that can be made.
use Rattle.std.proofs.Common.{Bool, List, None, [], ap, arith, false, get_or, get_or-set_other, inl, inr, refl, set, subst, suc, sym, true, zero, ℕ, ◌++◌, ◌+◌, ◌∙◌, ◌∷◌, ◌≡◌, ◌≢◌, ◌≤◌}
use Rattle.std.specs.Prelude.{not, ◌*◌, replicate}
use Rattle.std.specs.List.{AllByRecursion, filter_map}
use Rattle.std.proofs.lemmas.Bool.Decides.{eqb_tells}
use Rattle.dlm_modes.specs.Modes.{go_together, not_valid}
use Rattle.dlm_modes.specs.declared.Mode.TheVariants.{Nl, Pr, Ex}
use Rattle.mail_queues.specs.State.{QueueState}
use Rattle.mail_queues.specs.Queues.{messages_of, queue_of}
use Rattle.mail_queues.specs.declared.Body.{Body}
use Rattle.mail_queues.specs.declared.Body.TheVariants.{Request, Convert, Grant, Down, Report, End}
use Rattle.mail_queues.specs.declared.Message.{Message}
use Rattle.lock_steps.specs.Ties.{in_view, grants}
use Rattle.lock_steps.specs.Calls.{Sends, Receives, TellsItself, NoAsk}
use Rattle.lock_steps.proofs.Sets.{zero-has}
use Rattle.fencing.specs.NodeSets.{has}
use Rattle.dlm_holder.specs.Holdings.{mode_in, wanted_in}
use Rattle.conversion_laws.specs.Parts.{tell_of}
use Rattle.conversion_laws.specs.Calls.{TellsHeld, TellsNone, TakesView, Asks, Raises, Lowers, IsGranted, Reported, Ended, Completes, Blocks, Requested, Converted, Lowered, GrantsNext, OfMail, OfNode, OfMaster, NoCall, AndCall}
use Rattle.conversion_laws.specs.Laws.{Begins, BeginsNode, IsToTell, HasNothing}
use Rattle.conversion_laws.specs.Example.{a_lock, all_new, next_view, ListCanBeMade, RebuildCanBeMade}

-- ---- the mail, empty and with one message

abbrev no_queue : QueueState
no_queue = record { messages = []; room = 0 }

abbrev no_mail : List QueueState
no_mail = replicate 81 no_queue

-- a mail in which each queue is empty has no messages
empty : (n i : ℕ) → get_or (replicate n no_queue) i no_queue ≡ no_queue
empty zero i = refl
empty (suc n) zero = refl
empty (suc n) (suc i) = empty n i

nothing-comes : (from to : ℕ) → messages_of no_mail from to ≡ []
nothing-comes from to = ap (λ (q : QueueState). q.messages) (empty 81 (9 * from + to))

none-comes : (g from to : ℕ) → AllByRecursion (λ (m : Message). m.generation ≤ g) (messages_of no_mail from to ++ [])
none-comes g from to = subst (AllByRecursion (λ (m : Message). m.generation ≤ g)) (sym (ap (λ (ms : List Message). ms ++ []) (nothing-comes from to))) tt

begins : Begins a_lock all_new
begins = record {
  master = omega arith;
  table = refl;
  rebuild = λ r. absurd (let f : false ≡ true = r in cc);
  nodes = λ k x. HasNothing refl refl refl;
  together = λ i k x y ne. refl;
  tells = λ k x. ap (λ (ms : List Message). filter_map (in_view 1 (tell_of a_lock)) (ms ++ [])) (nothing-comes k 0);
  grants = λ k x. ap (λ (ms : List Message). filter_map (in_view 1 (grants a_lock)) (ms ++ [])) (nothing-comes 0 k);
  mail = λ i k x y. none-comes 1 i k;
}

abbrev one_letter : ℕ → ℕ → Message → List QueueState
one_letter from to m = set no_mail (9 * from + to) (record { messages = m ∷ []; room = 0 })

others : (from to : ℕ) (m : Message) → to ≤ 8 → (i k : ℕ) → i ≤ 8 → k ≤ 8 → (i ≡ from → k ≡ to → ⊥) → queue_of (one_letter from to m) i k ≡ queue_of no_mail i k
others from to m t i k x y ne =
    let other : 9 * i + k ≡ 9 * from + to → ⊥ = λ e. ne (omega (arith, e)) (omega (arith, e)) in
    get_or-set_other no_mail _ _ _ _ other

-- a message of the view
abbrev says : Body → Message
says body = record { generation = 1; body = body }

abbrev asks : Message
asks = says (Request a_lock Pr)

abbrev granted : Message
granted = says (Grant a_lock Pr not_valid)

abbrev lowers : Message
lowers = says (Down a_lock Nl None)

pub can-be-made : ListCanBeMade
can-be-made = (
  _,
  _,
  begins,
  AndCall _ _ (AndCall _ _ (AndCall _ _ (AndCall _ _ (AndCall _ _ (AndCall _ _ (AndCall _ _ (AndCall _ _ (AndCall _ _ (AndCall _ _
      (AndCall _ _ (AndCall _ _ (AndCall _ _ (AndCall _ _ (AndCall _ _ NoCall
      (OfNode _ (Asks 0 Pr (omega arith) refl refl refl)))
      (OfMail _ (TellsItself 0 asks [] (omega arith) refl refl)))
      (OfMaster _ (Requested 0 Pr [] (omega arith) refl)))
      (OfMail _ (TellsItself 0 granted [] (omega arith) refl refl)))
      (OfNode _ (IsGranted 0 Pr not_valid [] (omega arith) refl)))
      (OfNode _ (Asks 1 Pr (omega arith) refl refl refl)))
      (OfMail _ (Sends 1 0 asks [] (one_letter 1 0 asks) (omega arith) (omega arith) refl (record { queue = refl; others = others 1 0 asks (omega arith) }))))
      (OfMail _ (Receives 1 0 asks no_mail (omega arith) (omega arith) refl (record { queue = refl; others = λ i k x y ne. sym (others 1 0 asks (omega arith) i k x y ne) }))))
      (OfMaster _ (Requested 1 Pr [] (omega arith) refl)))
      (OfMail _ (Sends 0 1 granted [] (one_letter 0 1 granted) (omega arith) (omega arith) refl (record { queue = refl; others = others 0 1 granted (omega arith) }))))
      (OfMail _ (Receives 0 1 granted no_mail (omega arith) (omega arith) refl (record { queue = refl; others = λ i k x y ne. sym (others 0 1 granted (omega arith) i k x y ne) }))))
      (OfNode _ (IsGranted 1 Pr not_valid [] (omega arith) refl)))
      (OfNode _ (Raises 0 Ex (omega arith) refl (λ e. absurd (let f : Pr ≡ Nl = e in cc)) refl refl)))
      (OfMail _ (TellsItself 0 _ [] (omega arith) refl refl)))
      (OfMaster _ (Converted 0 Ex [] (omega arith) refl)),
  refl,
  refl,
  refl,
  AndCall _ _ (AndCall _ _ (AndCall _ _ (AndCall _ _ (AndCall _ _ (AndCall _ _ (AndCall _ _ NoCall
      (OfNode _ (Lowers 1 Nl None (omega arith) refl refl refl refl)))
      (OfMail _ (Sends 1 0 lowers [] (one_letter 1 0 lowers) (omega arith) (omega arith) refl (record { queue = refl; others = others 1 0 lowers (omega arith) }))))
      (OfMail _ (Receives 1 0 lowers no_mail (omega arith) (omega arith) refl (record { queue = refl; others = λ i k x y ne. sym (others 1 0 lowers (omega arith) i k x y ne) }))))
      (OfMaster _ (Lowered 1 Nl None [] (omega arith) refl refl)))
      (OfMaster _ GrantsNext))
      (OfMail _ (TellsItself 0 _ [] (omega arith) refl refl)))
      (OfNode _ (IsGranted 0 Ex not_valid [] (omega arith) refl)),
  refl,
  refl,
)

-- ---- a table that is made anew

-- node 1 is a member, so who is none holds nothing
holds-none : (k : ℕ) → has 3 k ≡ false → mode_in (next_view.holders k) a_lock ≡ Nl
holds-none k e = elim (eqb_tells k 1) [
  | inl is ↦ absurd (let f : true ≡ false = sym (ap (has 3) is.1) ∙ e in cc)
  | inr ne ↦ rw ne.0 refl
]

goes : (i k : ℕ) → i ≢ k → go_together (mode_in (next_view.holders i) a_lock) (mode_in (next_view.holders k) a_lock) ≡ true
goes i k ne = elim (eqb_tells i 1) [
  | inl is ↦ elim (eqb_tells k 1) [
    | inl also ↦ absurd (ne (is.1 ∙ sym also.1))
    | inr away ↦ rw (is.0, away.0) refl
  ]
  | inr away ↦ rw away.0 refl
]

node-begins : (k : ℕ) (b : Bool) → has 3 k ≡ b → BeginsNode a_lock next_view k
node-begins k true e = IsToTell refl e (zero-has k) (ap not e)
node-begins k false e = HasNothing (ap not e) (holds-none k e) (wants-none k)
  where
    wants-none : (k : ℕ) → wanted_in (next_view.holders k) a_lock ≡ None
    wants-none k = elim (eqb_tells k 1) [
      | inl is ↦ rw is.0 refl
      | inr ne ↦ rw ne.0 refl
    ]

begins-anew : Begins a_lock next_view
begins-anew = record {
  master = omega arith;
  table = refl;
  rebuild = λ r. refl;
  nodes = λ k x. node-begins k (has 3 k) refl;
  together = λ i k x y ne. goes i k ne;
  tells = λ k x. ap (λ (ms : List Message). filter_map (in_view 2 (tell_of a_lock)) (ms ++ [])) (nothing-comes k 0);
  grants = λ k x. ap (λ (ms : List Message). filter_map (in_view 2 (grants a_lock)) (ms ++ [])) (nothing-comes 0 k);
  mail = λ i k x y. none-comes 2 i k;
}

-- a message of the new view
abbrev tells : Body → Message
tells body = record { generation = 2; body = body }

abbrev reports : Message
reports = tells (Report a_lock Pr not_valid)

abbrev ends : Message
ends = tells End

abbrev raises : Message
raises = tells (Convert a_lock Ex)

abbrev given : Message
given = tells (Grant a_lock Ex not_valid)

pub rebuild-can-be-made : RebuildCanBeMade
rebuild-can-be-made = (
  _,
  _,
  begins-anew,
  AndCall _ _ (AndCall _ _ (AndCall _ _ (AndCall _ _ (AndCall _ _ (AndCall _ _ (AndCall _ _ (AndCall _ _ (AndCall _ _ (AndCall _ _ (AndCall _ _ NoCall
      (OfNode _ (TakesView 1 _ (reports ∷ ends ∷ []) (NoAsk refl) (omega arith) refl (omega arith, (omega arith, tt)) (TellsHeld refl) refl)))
      (OfNode _ (Raises 1 Ex (omega arith) refl (λ e. absurd (let f : Pr ≡ Nl = e in cc)) refl refl)))
      (OfMail _ (Sends 1 0 reports (ends ∷ raises ∷ []) (one_letter 1 0 reports) (omega arith) (omega arith) refl (record { queue = refl; others = others 1 0 reports (omega arith) }))))
      (OfMail _ (Receives 1 0 reports no_mail (omega arith) (omega arith) refl (record { queue = refl; others = λ i k x y ne. sym (others 1 0 reports (omega arith) i k x y ne) }))))
      (OfMail _ (Sends 1 0 ends (raises ∷ []) (one_letter 1 0 ends) (omega arith) (omega arith) refl (record { queue = refl; others = others 1 0 ends (omega arith) }))))
      (OfMail _ (Receives 1 0 ends no_mail (omega arith) (omega arith) refl (record { queue = refl; others = λ i k x y ne. sym (others 1 0 ends (omega arith) i k x y ne) }))))
      (OfMail _ (Sends 1 0 raises [] (one_letter 1 0 raises) (omega arith) (omega arith) refl (record { queue = refl; others = others 1 0 raises (omega arith) }))))
      (OfMail _ (Receives 1 0 raises no_mail (omega arith) (omega arith) refl (record { queue = refl; others = λ i k x y ne. sym (others 1 0 raises (omega arith) i k x y ne) }))))
      (OfMaster _ (Reported 1 Pr not_valid (ends ∷ raises ∷ []) (omega arith) refl refl)))
      (OfMaster _ (Ended 1 (raises ∷ []) (omega arith) refl refl)))
      (OfMaster _ (Converted 1 Ex [] (omega arith) refl)),
  refl,
  refl,
  AndCall _ _ (AndCall _ _ (AndCall _ _ (AndCall _ _ (AndCall _ _ (AndCall _ _ (AndCall _ _ (AndCall _ _ (AndCall _ _ NoCall
      (OfNode _ (TakesView 0 _ (ends ∷ []) (NoAsk refl) (omega arith) refl (omega arith, tt) (TellsNone refl refl) refl)))
      (OfMail _ (TellsItself 0 ends [] (omega arith) refl refl)))
      (OfMaster _ (Ended 0 [] (omega arith) refl refl)))
      (OfMaster _ (Blocks true 0 (λ r. refl))))
      (OfMaster _ (Completes refl refl)))
      (OfMaster _ GrantsNext))
      (OfMail _ (Sends 0 1 given [] (one_letter 0 1 given) (omega arith) (omega arith) refl (record { queue = refl; others = others 0 1 given (omega arith) }))))
      (OfMail _ (Receives 0 1 given no_mail (omega arith) (omega arith) refl (record { queue = refl; others = λ i k x y ne. sym (others 0 1 given (omega arith) i k x y ne) }))))
      (OfNode _ (IsGranted 1 Ex not_valid [] (omega arith) refl)),
  refl,
  refl,
)
