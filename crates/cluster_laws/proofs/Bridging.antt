-- From contents and places to cells.
use Rattle.cluster_laws.specs.Notes.{NeedsAreDone}
use Rattle.std.proofs.Common.{ℕ, ◌≡◌, ◌⊎◌, inl, inr, Option, None, Some, refl, sym, ap, ◌∙◌, subst}
use Rattle.cluster_laws.specs.Files.{Cell, Does, Guards, Touches, Tracks, laid, over}
use Rattle.cluster_laws.specs.Contents.{Rules, contents, places, files_of, written, moved, WritesUnder, HasInode, Did, AnswersAreDone, FreeCells}

written-laid : {C P : Type 0} (o : Option (Cell C P)) (x : Cell C P) → written o (x.content) ≡ (laid o x).content
written-laid None x = refl
written-laid (Some y) x = refl

moved-laid : {C P : Type 0} (o : Option (Cell C P)) (x : Cell C P) → moved o (x.place) ≡ (laid o x).place
moved-laid None x = refl
moved-laid (Some y) x = refl

pub answers_are_done : (R : Rules) → AnswersAreDone R
answers_are_done R held v c said answers = (does, guards, answers.0, tracks)
  where
    did : (m : ℕ → Cell R.Content R.Place) (t : R.Tree) → ((b : ℕ) (x : Cell R.Content R.Place) → v b ≡ Some x → m b ≡ x)
        → R.StandsFor (contents m) (places m) t → Did R held said c (contents m) (places m) t
    did m t h s = answers.1 (contents m) (places m) t (λ b x e. ap (λ z. z.content) (h b x e)) s

    does : Does (files_of R) v said c
    does m t h s =
        let d = did m t h s in (
          subst (λ z. R.StandsFor z (places (over (files_of R) c m)) (R.after said t)) (λ i b. written-laid (c b) (m b) i)
              (subst (λ z. R.StandsFor (λ b. written (c b) ((m b).content)) z (R.after said t)) (λ i b. moved-laid (c b) (m b) i) (d.stands)),
          d.answers,
        )

    guards : Guards (files_of R) held v c
    guards m t b y h s e = let d = did m t h s in (d.before b y e, d.behind b y e)

    writes : (l : R.Lock) → WritesUnder R c l → Touches (files_of R) c l
    writes l w = (w.0, w.1, w.2, inl (w.3, w.4))

    inode_of : (l : R.Lock) → HasInode R c l → Touches (files_of R) c l
    inode_of l h = (h.0, h.1, h.2, elim (h.4) [ inl free ↦ inr (free, sym (h.3)) | inr written ↦ inl (written.0, written.1 ∙ sym (h.3)) ])

    tracks : Tracks (files_of R) v c
    tracks m t b y h s e = let d = did m t h s in elim (d.tracked b y e) [
      | inl freed ↦ (inode_of (R.lock_of ((m b).place)) (freed.1), writes (R.lock_of (y.place)) (freed.2))
      | inr written ↦ (
        elim (written.1) [
          | inl same ↦ subst (λ l. Touches (files_of R) c l) (sym same) (b, y, e, inl (written.0, refl))
          | inr under ↦ writes (R.lock_of ((m b).place)) under
        ],
        (b, y, e, inl (written.0, refl)),
      )
    ]

pub free_cells : (R : Rules) → FreeCells R
free_cells R free m m' t s near = subst (λ z. R.StandsFor (contents m') z t) (λ i b. same-place b (near b) i) (free (contents m) (contents m') (places m) t s (λ b. content-near b (near b)))
  where
    content-near : (b : ℕ) → ((m b ≡ m' b) ⊎ (R.IsFree ((m b).place) × ((m b).place ≡ (m' b).place))) → (contents m b ≡ contents m' b) ⊎ R.IsFree (places m b)
    content-near b (inl e) = inl (ap (λ z. z.content) e)
    content-near b (inr e) = inr (e.0)

    same-place : (b : ℕ) → ((m b ≡ m' b) ⊎ (R.IsFree ((m b).place) × ((m b).place ≡ (m' b).place))) → places m b ≡ places m' b
    same-place b (inl e) = ap (λ z. z.place) e
    same-place b (inr e) = e.1

pub needs_are_done : (R : Rules) → NeedsAreDone R
needs_are_done R v b l needs m t agrees stands = needs (contents m) (places m) t (λ k x e. ap (λ z. z.content) (agrees k x e)) stands
