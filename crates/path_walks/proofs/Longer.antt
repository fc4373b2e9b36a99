-- Lists of locks that are held so far, with more before or behind.
use Rattle.std.proofs.Common.{◌≡◌, true, List, [], ◌∷◌, ◌++◌, sym, ap, subst, ◌∙◌}
use Rattle.std.proofs.lemmas.List.{append_assoc}
use Rattle.std.proofs.lemmas.List.Elements.{All-append}
use Rattle.glock_names.specs.Views.{Seen}
use Rattle.glock_names.specs.declared.LockName.{LockName}
use Rattle.glock_names.specs.declared.State.{State}
use Rattle.glock_names.specs.declared.steps.Missing.{Missing}
use Rattle.image_model.specs.Image.{Image}
use Rattle.image_model.specs.Owners.{Owners}
use Rattle.image_model.specs.Stands.{Layout}
use Rattle.path_walks.specs.Holds.{Hold, AreHeld, IsAskedFor, IsFirstLack, holds}

-- ---- the first lock that isn't held

pub lack_before : (v : Seen) (list more : List Hold) (lock : LockName) (state : State) → IsFirstLack v list lock state → IsFirstLack v (list ++ more) lock state
lack_before v list more lock state is = record {
  front = is.front;
  back = is.back ++ more;
  split = ap (λ xs. xs ++ more) is.split ∙ append_assoc is.front (record { lock = lock; state = state } ∷ is.back) more;
  held = is.held;
  lacks = is.lacks;
}

pub lack_behind : (v : Seen) (list more : List Hold) (lock : LockName) (state : State) → AreHeld v list → IsFirstLack v more lock state → IsFirstLack v (list ++ more) lock state
lack_behind v list more lock state held is = record {
  front = list ++ is.front;
  back = is.back;
  split = ap (λ xs. list ++ xs) is.split ∙ sym (append_assoc list is.front (record { lock = lock; state = state } ∷ is.back));
  held = All-append (λ h. holds v h ≡ true) list is.front held is.held;
  lacks = is.lacks;
}

-- ---- a block that is asked for under one of them

pub asked_before : (v : Seen) (im : Image) (o : Owners) (l : Layout) (list more : List Hold) (m : Missing) → IsAskedFor v im o l list m → IsAskedFor v im o l (list ++ more) m
asked_before v im o l list more m is = record {
  absent = is.absent;
  covered = is.covered;
  used = is.used;
  plain = is.plain;
  state = is.state;
  front = is.front;
  back = is.back ++ more;
  split = ap (λ xs. xs ++ more) is.split ∙ append_assoc is.front (record { lock = m.lock; state = is.state } ∷ is.back) more;
  held = is.held;
}

pub asked_behind : (v : Seen) (im : Image) (o : Owners) (l : Layout) (list more : List Hold) (m : Missing) → AreHeld v list → IsAskedFor v im o l more m → IsAskedFor v im o l (list ++ more) m
asked_behind v im o l list more m held is = record {
  absent = is.absent;
  covered = is.covered;
  used = is.used;
  plain = is.plain;
  state = is.state;
  front = list ++ is.front;
  back = is.back;
  split = ap (λ xs. list ++ xs) is.split ∙ sym (append_assoc list is.front (record { lock = m.lock; state = is.state } ∷ is.back));
  held = subst (AreHeld v) (sym (append_assoc list is.front (record { lock = m.lock; state = is.state } ∷ [])))
      (All-append (λ h. holds v h ≡ true) list (is.front ++ record { lock = m.lock; state = is.state } ∷ []) held is.held);
}
