-- What is on its way from a node to another, after a call.
use Rattle.std.proofs.Common.{ℕ, ◌≡◌, ◌≤◌, inl, inr, Option, None, Some, List, [], ◌∷◌, ◌++◌, refl, sym, ap, ◌∙◌, subst, append_assoc}
use Rattle.std.specs.List.{AllByRecursion, filter_map}
use Rattle.std.proofs.lemmas.Bool.{cases_eq}
use Rattle.std.proofs.lemmas.List.{append-nil}
use Rattle.std.proofs.lemmas.List.Elements.{filter_map-append}
use Rattle.mail_queues.specs.declared.Message.{Message}
use Rattle.mail_queues.specs.State.{QueueState}
use Rattle.mail_queues.specs.Queues.{messages_of, IsQueueNow}
use Rattle.lock_steps.specs.Parts.{Post, way, at_pair, with_letters, with_left}
use Rattle.lock_steps.specs.Calls.{MailCall, Sends, Receives, Keeps, TellsItself}
use Rattle.lock_steps.proofs.Basics.{pair-here, pair-away, pairs}

-- ---- letters, and what is left of those taken

pub letters-here : (p : Post) (a b : ℕ) (ms : List Message) → way (with_letters p a b ms) a b ≡ way p a b ++ ms
letters-here p a b ms =
    ap (λ (t : List Message). p.took a b ++ (messages_of p.mail a b ++ t)) (pair-here p.sends a b (p.sends a b ++ ms))
    ∙ (ap (λ (t : List Message). p.took a b ++ t) (sym (append_assoc (messages_of p.mail a b) (p.sends a b) ms))
    ∙ sym (append_assoc (p.took a b) (messages_of p.mail a b ++ p.sends a b) ms))

pub letters-away : (p : Post) (a b : ℕ) (ms : List Message) (i k : ℕ) → (i ≡ a → k ≡ b → ⊥) → way (with_letters p a b ms) i k ≡ way p i k
letters-away p a b ms i k ne = ap (λ (t : List Message). p.took i k ++ (messages_of p.mail i k ++ t)) (pair-away p.sends a b (p.sends a b ++ ms) i k ne)

pub left-here : (p : Post) (a b : ℕ) (m : Message) (rest : List Message) → p.took a b ≡ m ∷ rest → way p a b ≡ m ∷ way (with_left p a b rest) a b
left-here p a b m rest e =
    ap (λ (t : List Message). t ++ (messages_of p.mail a b ++ p.sends a b)) e
    ∙ ap (λ (t : List Message). m ∷ (t ++ (messages_of p.mail a b ++ p.sends a b))) (sym (pair-here p.took a b rest))

pub left-away : (p : Post) (a b : ℕ) (rest : List Message) (i k : ℕ) → (i ≡ a → k ≡ b → ⊥) → way (with_left p a b rest) i k ≡ way p i k
left-away p a b rest i k ne = ap (λ (t : List Message). t ++ (messages_of p.mail i k ++ p.sends i k)) (pair-away p.took a b rest i k ne)

-- ---- what messages say

module _ {A : Type 0} (says : Message → Option A) where
  pub letters-say : (p : Post) (a b : ℕ) (ms : List Message) → filter_map says (way (with_letters p a b ms) a b) ≡ filter_map says (way p a b) ++ filter_map says ms
  letters-say p a b ms = ap (filter_map says) (letters-here p a b ms) ∙ filter_map-append says (way p a b) ms

  -- letters that say nothing
  pub letters-mute : (p : Post) (a b : ℕ) (ms : List Message) (i k : ℕ) → filter_map says ms ≡ [] → filter_map says (way (with_letters p a b ms) i k) ≡ filter_map says (way p i k)
  letters-mute p a b ms i k mute = elim (pairs i k a b) [
    | inl e ↦ subst (λ (x : ℕ). filter_map says (way (with_letters p a b ms) x k) ≡ filter_map says (way p x k)) (sym e.0)
        (subst (λ (y : ℕ). filter_map says (way (with_letters p a b ms) a y) ≡ filter_map says (way p a y)) (sym e.1)
        (letters-say p a b ms ∙ (ap (λ (t : List A). filter_map says (way p a b) ++ t) mute ∙ append-nil _)))
    | inr ne ↦ ap (filter_map says) (letters-away p a b ms i k ne)
  ]

  pub left-says : (p : Post) (a b : ℕ) (m : Message) (rest : List Message) (x : A) → p.took a b ≡ m ∷ rest → says m ≡ Some x
      → filter_map says (way p a b) ≡ x ∷ filter_map says (way (with_left p a b rest) a b)
  left-says p a b m rest x e said = ap (filter_map says) (left-here p a b m rest e) ∙ rw said refl

  pub left-mute : (p : Post) (a b : ℕ) (m : Message) (rest : List Message) (i k : ℕ) → p.took a b ≡ m ∷ rest → says m ≡ None
      → filter_map says (way (with_left p a b rest) i k) ≡ filter_map says (way p i k)
  left-mute p a b m rest i k e mute = elim (pairs i k a b) [
    | inl s ↦ subst (λ (x : ℕ). filter_map says (way (with_left p a b rest) x k) ≡ filter_map says (way p x k)) (sym s.0)
        (subst (λ (y : ℕ). filter_map says (way (with_left p a b rest) a y) ≡ filter_map says (way p a y)) (sym s.1)
        (sym (ap (filter_map says) (left-here p a b m rest e) ∙ rw mute refl)))
    | inr ne ↦ ap (filter_map says) (left-away p a b rest i k ne)
  ]

  -- letters and messages that say nothing to a node, or from it
  pub letters-quiet-to : (p : Post) (a b : ℕ) (ms : List Message) (i k : ℕ) → (b ≡ k → filter_map says ms ≡ []) → filter_map says (way (with_letters p a b ms) i k) ≡ filter_map says (way p i k)
  letters-quiet-to p a b ms i k quiet = elim (cases_eq b k) [
    | inl e ↦ letters-mute p a b ms i k (quiet e)
    | inr ne ↦ ap (filter_map says) (letters-away p a b ms i k (λ e f. ne (sym f)))
  ]

  pub letters-quiet-from : (p : Post) (a b : ℕ) (ms : List Message) (i k : ℕ) → (a ≡ i → filter_map says ms ≡ []) → filter_map says (way (with_letters p a b ms) i k) ≡ filter_map says (way p i k)
  letters-quiet-from p a b ms i k quiet = elim (cases_eq a i) [
    | inl e ↦ letters-mute p a b ms i k (quiet e)
    | inr ne ↦ ap (filter_map says) (letters-away p a b ms i k (λ e f. ne (sym e)))
  ]

  pub left-quiet-to : (p : Post) (a b : ℕ) (m : Message) (rest : List Message) (i k : ℕ) → p.took a b ≡ m ∷ rest → (b ≡ k → says m ≡ None)
      → filter_map says (way (with_left p a b rest) i k) ≡ filter_map says (way p i k)
  left-quiet-to p a b m rest i k hand quiet = elim (cases_eq b k) [
    | inl e ↦ left-mute p a b m rest i k hand (quiet e)
    | inr ne ↦ ap (filter_map says) (left-away p a b rest i k (λ e f. ne (sym f)))
  ]

-- what is said where less is left: all that was said, or all but the first
pub left-rest : {A : Type 0} (says : Message → Option A) (p : Post) (a b : ℕ) (m : Message) (rest : List Message) (i k : ℕ) → p.took a b ≡ m ∷ rest
    → (gone : List A) × (filter_map says (way p i k) ≡ gone ++ filter_map says (way (with_left p a b rest) i k))
left-rest {A} says p a b m rest i k hand = elim (pairs i k a b) [
  | inl e ↦ subst (λ (x : ℕ). (gone : List A) × (filter_map says (way p x k) ≡ gone ++ filter_map says (way (with_left p a b rest) x k))) (sym e.0)
      (subst (λ (y : ℕ). (gone : List A) × (filter_map says (way p a y) ≡ gone ++ filter_map says (way (with_left p a b rest) a y))) (sym e.1) (by (says m) refl))
  | inr ne ↦ ([], sym (ap (filter_map says) (left-away p a b rest i k ne)))
]
  where
    by : (o : Option A) → says m ≡ o → (gone : List A) × (filter_map says (way p a b) ≡ gone ++ filter_map says (way (with_left p a b rest) a b))
    by None e = ([], sym (left-mute says p a b m rest a b hand e))
    by (Some x) e = (x ∷ [], left-says says p a b m rest x hand e)

-- ---- all messages

module _ (P : Message → Type 0) where
  pub all-append : (xs ys : List Message) → AllByRecursion P xs → AllByRecursion P ys → AllByRecursion P (xs ++ ys)
  all-append [] ys all more = more
  all-append (x ∷ xs) ys all more = (all.0, all-append xs ys all.1 more)

  pub letters-all : (p : Post) (a b : ℕ) (ms : List Message) (i k : ℕ) → AllByRecursion P ms → AllByRecursion P (way p i k) → AllByRecursion P (way (with_letters p a b ms) i k)
  letters-all p a b ms i k new old = elim (pairs i k a b) [
    | inl e ↦ subst (λ (x : ℕ). AllByRecursion P (way (with_letters p a b ms) x k)) (sym e.0)
        (subst (λ (y : ℕ). AllByRecursion P (way (with_letters p a b ms) a y)) (sym e.1)
        (subst (AllByRecursion P) (sym (letters-here p a b ms)) (all-append (way p a b) ms
        (subst (λ (y : ℕ). AllByRecursion P (way p a y)) e.1 (subst (λ (x : ℕ). AllByRecursion P (way p x k)) e.0 old)) new)))
    | inr ne ↦ subst (AllByRecursion P) (sym (letters-away p a b ms i k ne)) old
  ]

  pub left-all : (p : Post) (a b : ℕ) (m : Message) (rest : List Message) (i k : ℕ) → p.took a b ≡ m ∷ rest → AllByRecursion P (way p i k) → AllByRecursion P (way (with_left p a b rest) i k)
  left-all p a b m rest i k e old = elim (pairs i k a b) [
    | inl s ↦ subst (λ (x : ℕ). AllByRecursion P (way (with_left p a b rest) x k)) (sym s.0)
        (subst (λ (y : ℕ). AllByRecursion P (way (with_left p a b rest) a y)) (sym s.1)
        (subst (AllByRecursion P) (left-here p a b m rest e) (subst (λ (y : ℕ). AllByRecursion P (way p a y)) s.1 (subst (λ (x : ℕ). AllByRecursion P (way p x k)) s.0 old))).1)
    | inr ne ↦ subst (AllByRecursion P) (sym (left-away p a b rest i k ne)) old
  ]

-- ---- the mail

within : (mail new : List QueueState) (from to : ℕ) (ms : List Message) (i k : ℕ) → IsQueueNow mail new from to ms → i ≤ 8 → k ≤ 8 → (i ≡ from → k ≡ to → ⊥)
    → messages_of new i k ≡ messages_of mail i k
within mail new from to ms i k now x y ne = ap (λ (q : QueueState). q.messages) (now.others i k x y ne)

-- a call of the mail changes no way
pub mail-keeps : (p q : Post) → MailCall p q → (i k : ℕ) → i ≤ 8 → k ≤ 8 → way q i k ≡ way p i k
mail-keeps p _ (Sends from to m rest mail f t hand now) i k x y = elim (pairs i k from to) [
  | inl e ↦ along i k e.0 e.1 (
      ap (λ (s : List Message). p.took from to ++ (messages_of mail from to ++ s)) (pair-here p.sends from to rest)
      ∙ (ap (λ (s : List Message). p.took from to ++ (s ++ rest)) now.queue
      ∙ (ap (λ (s : List Message). p.took from to ++ s) (append_assoc (messages_of p.mail from to) (m ∷ []) rest)
      ∙ ap (λ (s : List Message). p.took from to ++ (messages_of p.mail from to ++ s)) (sym hand))))
  | inr ne ↦ ap (λ (s : List Message). p.took i k ++ (messages_of mail i k ++ s)) (pair-away p.sends from to rest i k ne)
      ∙ ap (λ (s : List Message). p.took i k ++ (s ++ p.sends i k)) (within p.mail mail from to _ i k now x y ne)
]
  where
    along : (i k : ℕ) → i ≡ from → k ≡ to → way (record p { mail = mail; sends = at_pair p.sends from to rest }) from to ≡ way p from to
        → way (record p { mail = mail; sends = at_pair p.sends from to rest }) i k ≡ way p i k
    along i k e f h = subst (λ (a : ℕ). way (record p { mail = mail; sends = at_pair p.sends from to rest }) a k ≡ way p a k) (sym e)
        (subst (λ (b : ℕ). way (record p { mail = mail; sends = at_pair p.sends from to rest }) from b ≡ way p from b) (sym f) h)
mail-keeps p _ (Receives from to m mail f t first now) i k x y = elim (pairs i k from to) [
  | inl e ↦ along i k e.0 e.1 (
      ap (λ (s : List Message). s ++ (messages_of mail from to ++ p.sends from to)) (pair-here p.took from to (p.took from to ++ m ∷ []))
      ∙ (append_assoc (p.took from to) (m ∷ []) (messages_of mail from to ++ p.sends from to)
      ∙ ap (λ (s : List Message). p.took from to ++ (s ++ p.sends from to)) (sym first)))
  | inr ne ↦ ap (λ (s : List Message). s ++ (messages_of mail i k ++ p.sends i k)) (pair-away p.took from to (p.took from to ++ m ∷ []) i k ne)
      ∙ ap (λ (s : List Message). p.took i k ++ (s ++ p.sends i k)) (within p.mail mail from to _ i k now x y ne)
]
  where
    along : (i k : ℕ) → i ≡ from → k ≡ to → way (record p { mail = mail; took = at_pair p.took from to (p.took from to ++ m ∷ []) }) from to ≡ way p from to
        → way (record p { mail = mail; took = at_pair p.took from to (p.took from to ++ m ∷ []) }) i k ≡ way p i k
    along i k e f h = subst (λ (a : ℕ). way (record p { mail = mail; took = at_pair p.took from to (p.took from to ++ m ∷ []) }) a k ≡ way p a k) (sym e)
        (subst (λ (b : ℕ). way (record p { mail = mail; took = at_pair p.took from to (p.took from to ++ m ∷ []) }) from b ≡ way p from b) (sym f) h)
mail-keeps p _ (Keeps from to mail now f t) i k x y = elim (pairs i k from to) [
  | inl e ↦ subst (λ (a : ℕ). way (record p { mail = mail }) a k ≡ way p a k) (sym e.0)
      (subst (λ (b : ℕ). way (record p { mail = mail }) from b ≡ way p from b) (sym e.1)
      (ap (λ (s : List Message). p.took from to ++ (s ++ p.sends from to)) now.queue))
  | inr ne ↦ ap (λ (s : List Message). p.took i k ++ (s ++ p.sends i k)) (within p.mail mail from to _ i k now x y ne)
]
mail-keeps p _ (TellsItself n m rest f hand none) i k x y = elim (pairs i k n n) [
  | inl e ↦ along i k e.0 e.1 (
      ap (λ (s : List Message). s ++ (messages_of p.mail n n ++ at_pair p.sends n n rest n n)) (pair-here p.took n n (p.took n n ++ m ∷ []))
      ∙ (ap (λ (s : List Message). (p.took n n ++ m ∷ []) ++ (messages_of p.mail n n ++ s)) (pair-here p.sends n n rest)
      ∙ (ap (λ (s : List Message). (p.took n n ++ m ∷ []) ++ (s ++ rest)) none
      ∙ (append_assoc (p.took n n) (m ∷ []) rest
      ∙ (ap (λ (s : List Message). p.took n n ++ s) (sym hand)
      ∙ ap (λ (s : List Message). p.took n n ++ (s ++ p.sends n n)) (sym none))))))
  | inr ne ↦ ap (λ (s : List Message). s ++ (messages_of p.mail i k ++ at_pair p.sends n n rest i k)) (pair-away p.took n n (p.took n n ++ m ∷ []) i k ne)
      ∙ ap (λ (s : List Message). p.took i k ++ (messages_of p.mail i k ++ s)) (pair-away p.sends n n rest i k ne)
]
  where
    along : (i k : ℕ) → i ≡ n → k ≡ n → way (record p { took = at_pair p.took n n (p.took n n ++ m ∷ []); sends = at_pair p.sends n n rest }) n n ≡ way p n n
        → way (record p { took = at_pair p.took n n (p.took n n ++ m ∷ []); sends = at_pair p.sends n n rest }) i k ≡ way p i k
    along i k e f h = subst (λ (a : ℕ). way (record p { took = at_pair p.took n n (p.took n n ++ m ∷ []); sends = at_pair p.sends n n rest }) a k ≡ way p a k) (sym e)
        (subst (λ (b : ℕ). way (record p { took = at_pair p.took n n (p.took n n ++ m ∷ []); sends = at_pair p.sends n n rest }) n b ≡ way p n b) (sym f) h)
