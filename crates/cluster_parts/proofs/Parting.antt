-- Journals, caches, flights and locks, part by part.
use Rattle.std.proofs.Common.{ℕ, ◌≡◌, inl, inr, true, false, Some, sym, ◌∙◌, subst}
use Rattle.std.proofs.lemmas.Bool.{cases_Bool}
use Rattle.cluster_laws.specs.Files.{Files, LockOf, Ex}
use Rattle.cluster_laws.specs.Book.{W, InBox}
use Rattle.cluster_laws.proofs.Cells.{inside, whose-some, seen_in}
use Rattle.lock_laws.specs.Lock.{goes, eff, Holds}
use Rattle.lock_laws.proofs.Keeping.{dominated}
use Rattle.cluster_events.specs.Cluster.{BookOf}
use Rattle.cluster_parts.specs.Parts.{PartsHold, LockPartsHold}

pub parts : (F : Files) → PartsHold F
parts F w s = record {
  lives = record {
    held = λ i c b v cut live box. exclusive i b cut ((s.mirror).lives i c b v live) box;
    apart = λ i j c d b u v one other. inside (sym ((s.mirror).lives i c b u one) ∙ (s.mirror).lives j d b v other);
  };
  unflushed = λ i n b x cut low high change box. exclusive i b cut (((s.whole).logged i n low high).touched b x change) box;
  cached = λ j b x cut cache e. (let seen = (s.whole).cached j b x cache in (seen_in F (w.book) j ((w.book).answered j) b x cut seen e, seen.held));
  flights = λ r b v flight. (let f = (s.mirror).flights r b v flight in (f.0, (s.mirror).lives (f.0) false b v (f.1 false), f.1));
}
  where
    exclusive : (i b : ℕ) (cut : ℕ → ℕ) → (w.book).owner b ≡ Some i → InBox F (w.book) cut → (w.book).state i (LockOf F (W F (w.book) cut b)) ≡ Ex
    exclusive i b cut own box = subst (λ x. (w.book).state i (LockOf F x) ≡ Ex) (sym (whose-some _ _ own)) ((s.whole).owned i (cut i) b own (box i).0 (box i).1)

pub lock_parts : (F : Files) → LockPartsHold F
lock_parts F c t = record {
  states = record {
    nodes = λ i j l ne here there. subst (λ z. goes z ((BookOf F c).state j l) ≡ true) (sym (t.tied i l here))
        (subst (λ z. goes ((c.locks l i).state) z ≡ true) (sym (t.tied j l there)) ((((t.locks l).apart i j ne) _ _ Holds Holds)));
    past = λ i l here held. elim (cases_Bool (c.waits (c.past))) [
      | inl wait ↦ t.tied i l here ∙ (t.idle wait l i).0
      | inr over ↦ absurd (held (t.ended over l))
    ];
  };
  master = λ i l taken none. (let n = c.locks l i in let d = dominated (eff n) (n.down) (n.table) (n.up) none (((t.locks l).fine i).ok taken) in (d.0, d.1));
}
