-- Frames stay apart, whatever is put, dropped and moved.
use Rattle.std.proofs.Common.{◌≡◌, ℕ, true, Option, None, Some, ◌⊎◌, inl, inr, sym, ap, subst, ◌∙◌, true≢false, is_some, unwrap_or}
use Rattle.std.specs.FinMap.{get}
use Rattle.frame_pool.specs.Frames.{Frames, IsOut}
use Rattle.log_tables.specs.Slots.{AreApart, Slot}

some_is : (a b : ℕ) → Some a ≡ Some b → a ≡ b
some_is a b e = ap (λ o. unwrap_or o a) e

some_none : (a : ℕ) → Some a ≡ None → ⊥
some_none a e = true≢false (ap is_some e)

module _ (at at' : Slot → Option ℕ) (old new : Frames) (held : AreApart at old) where
  -- no slot has a frame that isn't out
  pub not_held : (frame : ℕ) → get old.out frame ≡ None → (s : Slot) → at s ≡ Some frame → ⊥
  not_held frame none s e = true≢false (sym (held.out s frame e) ∙ ap is_some none)

  -- a slot has a frame that wasn't out; each other has what it had
  pub takes_frame : (frame : ℕ) (slot : Slot) → get old.out frame ≡ None → IsOut new frame → ((g : ℕ) → (g ≡ frame → ⊥) → get new.out g ≡ get old.out g)
      → at' slot ≡ Some frame → ((s : Slot) → (s ≡ slot) ⊎ (at' s ≡ at s)) → AreApart at' new
  takes_frame frame slot was_in is_out others here rest = record {
    out = λ s g e. out_by s g e (rest s);
    apart = λ s t g e f. apart_by s t g e f (rest s) (rest t);
  }
    where
      out_by : (s : Slot) (g : ℕ) → at' s ≡ Some g → (s ≡ slot) ⊎ (at' s ≡ at s) → IsOut new g
      out_by s g e (inl is) = subst (λ n. IsOut new n) (some_is frame g (sym here ∙ ap at' (sym is) ∙ e)) is_out
      out_by s g e (inr same) =
          subst (λ (o : Option _). is_some o ≡ true) (sym (others g (λ is. not_held frame was_in s (sym same ∙ e ∙ ap Some is)))) (held.out s g (sym same ∙ e))

      apart_by : (s t : Slot) (g : ℕ) → at' s ≡ Some g → at' t ≡ Some g → (s ≡ slot) ⊎ (at' s ≡ at s) → (t ≡ slot) ⊎ (at' t ≡ at t) → s ≡ t
      apart_by s t g e f (inl is) (inl it) = is ∙ sym it
      apart_by s t g e f (inl is) (inr same) = absurd (not_held frame was_in t (sym same ∙ f ∙ sym e ∙ ap at' is ∙ here))
      apart_by s t g e f (inr same) (inl it) = absurd (not_held frame was_in s (sym same ∙ e ∙ sym f ∙ ap at' it ∙ here))
      apart_by s t g e f (inr same) (inr alike) = held.apart s t g (sym same ∙ e) (sym alike ∙ f)

  -- a slot gives its frame back; each other has what it had
  pub gives_frame : (frame : ℕ) (slot : Slot) → at slot ≡ Some frame → ((g : ℕ) → (g ≡ frame → ⊥) → get new.out g ≡ get old.out g)
      → at' slot ≡ None → ((s : Slot) → (s ≡ slot) ⊎ (at' s ≡ at s)) → AreApart at' new
  gives_frame frame slot had others none rest = record {
    out = λ s g e. out_by s g e (rest s);
    apart = λ s t g e f. apart_by s t g e f (rest s) (rest t);
  }
    where
      no_frame : (s : Slot) (g : ℕ) → at' s ≡ Some g → s ≡ slot → ⊥
      no_frame s g e is = some_none g (sym e ∙ ap at' is ∙ none)

      out_by : (s : Slot) (g : ℕ) → at' s ≡ Some g → (s ≡ slot) ⊎ (at' s ≡ at s) → IsOut new g
      out_by s g e (inl is) = absurd (no_frame s g e is)
      out_by s g e (inr same) =
          subst (λ (o : Option _). is_some o ≡ true) (sym (others g (λ is. no_frame s g e (held.apart s slot frame (sym same ∙ e ∙ ap Some is) had)))) (held.out s g (sym same ∙ e))

      apart_by : (s t : Slot) (g : ℕ) → at' s ≡ Some g → at' t ≡ Some g → (s ≡ slot) ⊎ (at' s ≡ at s) → (t ≡ slot) ⊎ (at' t ≡ at t) → s ≡ t
      apart_by s t g e f (inl is) other = absurd (no_frame s g e is)
      apart_by s t g e f (inr same) (inl it) = absurd (no_frame t g f it)
      apart_by s t g e f (inr same) (inr alike) = held.apart s t g (sym same ∙ e) (sym alike ∙ f)

  -- a slot hands its frame on to another, which had none
  pub hands_frame : (frame : ℕ) (from to : Slot) → at from ≡ Some frame → ((g : ℕ) → get new.out g ≡ get old.out g)
      → at' to ≡ Some frame → at' from ≡ None → ((s : Slot) → (s ≡ to) ⊎ ((s ≡ from) ⊎ (at' s ≡ at s))) → AreApart at' new
  hands_frame frame from to had same_out there none rest = record {
    out = λ s g e. out_by s g e (rest s);
    apart = λ s t g e f. apart_by s t g e f (rest s) (rest t);
  }
    where
      still_out : (g : ℕ) → IsOut old g → IsOut new g
      still_out g is = ap is_some (same_out g) ∙ is

      no_frame : (s : Slot) (g : ℕ) → at' s ≡ Some g → s ≡ from → ⊥
      no_frame s g e is = some_none g (sym e ∙ ap at' is ∙ none)

      the_frame : (s : Slot) (g : ℕ) → at' s ≡ Some g → s ≡ to → g ≡ frame
      the_frame s g e is = some_is g frame (sym e ∙ ap at' is ∙ there)

      not_it : (s : Slot) (g : ℕ) → at' s ≡ Some g → at' s ≡ at s → g ≡ frame → ⊥
      not_it s g e same is = no_frame s g e (held.apart s from frame (sym same ∙ e ∙ ap Some is) had)

      out_by : (s : Slot) (g : ℕ) → at' s ≡ Some g → (s ≡ to) ⊎ ((s ≡ from) ⊎ (at' s ≡ at s)) → IsOut new g
      out_by s g e (inl is) = subst (λ n. IsOut new n) (sym (the_frame s g e is)) (still_out frame (held.out from frame had))
      out_by s g e (inr (inl is)) = absurd (no_frame s g e is)
      out_by s g e (inr (inr same)) = still_out g (held.out s g (sym same ∙ e))

      apart_by : (s t : Slot) (g : ℕ) → at' s ≡ Some g → at' t ≡ Some g → (s ≡ to) ⊎ ((s ≡ from) ⊎ (at' s ≡ at s)) → (t ≡ to) ⊎ ((t ≡ from) ⊎ (at' t ≡ at t)) → s ≡ t
      apart_by s t g e f (inl is) (inl it) = is ∙ sym it
      apart_by s t g e f (inl is) (inr (inl it)) = absurd (no_frame t g f it)
      apart_by s t g e f (inl is) (inr (inr alike)) = absurd (not_it t g f alike (the_frame s g e is))
      apart_by s t g e f (inr (inl is)) other = absurd (no_frame s g e is)
      apart_by s t g e f (inr (inr same)) (inl it) = absurd (not_it s g e same (the_frame t g f it))
      apart_by s t g e f (inr (inr same)) (inr (inl it)) = absurd (no_frame t g f it)
      apart_by s t g e f (inr (inr same)) (inr (inr alike)) = held.apart s t g (sym same ∙ e) (sym alike ∙ f)
