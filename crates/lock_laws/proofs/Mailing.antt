-- What a new view and messages of older ones do to a queue.
use Rattle.std.proofs.Common.{ℕ, ◌≡◌, ◌<◌, List, [], ◌∷◌, ◌++◌, true, false, Bool, inl, inr, refl, ap, ◌∙◌, arith}
use Rattle.std.specs.Prelude.{◌==◌, if◌then◌else◌}
use Rattle.std.proofs.lemmas.Bool.{cond-true, cond-false, eq-eqb}
use Rattle.std.proofs.lemmas.Bool.Decides.{eqb_tells}
use Rattle.lock_laws.specs.Lock.{Message}
use Rattle.lock_laws.specs.Mail.{Sent, of_view, AllEarlier, MailIsOfView}

eqb-less : (h g : ℕ) → h < g → (h == g) ≡ false
eqb-less h g less = elim (eqb_tells h g) [ inl e ↦ absurd (omega (arith, e.1)) | inr ne ↦ ne.0 ]

if-append : (b : Bool) (m : Message) (us vs : List Message) → (if b then m ∷ (us ++ vs) else (us ++ vs)) ≡ (if b then m ∷ us else us) ++ vs
if-append true m us vs = refl
if-append false m us vs = refl

sent : (g : ℕ) (m : Message) (q : List Sent) → of_view g (q ++ record { view = g; message = m } ∷ []) ≡ of_view g q ++ m ∷ []
sent g m [] = cond-true (g == g) _ _ (eq-eqb g g refl)
sent g m (s ∷ q) = ap (λ z. if s.view == g then s.message ∷ z else z) (sent g m q) ∙ if-append (s.view == g) (s.message) (of_view g q) (m ∷ [])

anew : (g : ℕ) (q : List Sent) → AllEarlier g q → of_view g q ≡ []
anew g [] p = refl
anew g (s ∷ q) p = cond-false (s.view == g) _ _ (eqb-less (s.view) g (p.0)) ∙ anew g q (p.1)

pub mail_is_of_view : MailIsOfView
mail_is_of_view = record {
  sent = sent;
  taken = λ g m q. cond-true (g == g) _ _ (eq-eqb g g refl);
  dropped = λ g h m q less. cond-false (h == g) _ _ (eqb-less h g less);
  anew = anew;
}
