-- One more block that is read and kept.
use Rattle.std.proofs.Common.{◌≡◌, ◌<◌, inl, inr, ℕ, zero, suc, List, [], ◌∷◌, ◌++◌, take, drop, length, length-set, refl, Option, None, Some, IsTrue, sym, ap, subst, ◌∙◌, arith}
use Rattle.std.specs.Prelude.{slice_get, slice_set}
use Rattle.std.specs.List.{All}
use Rattle.shared_disk.specs.Disk.{DiskState, IsIdle}
use Rattle.image_mount.specs.Searching.{IsWorking}
use Rattle.image_mount.specs.Kept.{Kept, bytes_of}
use Rattle.image_mount.proofs.KeptLaws.{get_kept, none_kept}

pub not_kept : (entries : List (Option (List ℕ))) (b : ℕ) → b < length entries → bytes_of (slice_get entries b) ≡ None → slice_get entries b ≡ Some None
not_kept [] b low none = absurd (omega arith)
not_kept (None ∷ es) zero low none = ap Some none
not_kept (Some e ∷ es) zero low none = cc
not_kept (e ∷ es) (suc b) low none = not_kept es b (omega arith) none

pub working_more : (s t : DiskState) (k new : Kept) (b : ℕ) (x : List ℕ) → t ≡ s → IsWorking s k → slice_get k.entries b ≡ Some None → new.entries ≡ slice_set k.entries b (Some x) → new.size ≡ k.size
    → (IsTrue s.tells → x ≡ s.block_at b) → IsWorking t new
working_more s t k new b x same work free is size read = subst (λ u. IsWorking u new) (sym same) (record {
  idle = work.idle;
  size = size ∙ work.size;
  count = ap length is ∙ length-set k.entries b (Some x) ∙ work.count;
  same = λ tells n bytes at. elim (get_kept x k.entries b n bytes free (ap (λ es. bytes_of (slice_get es n)) (sym is) ∙ at)) [
    | inl both ↦ ap s.block_at both.0 ∙ sym (read tells) ∙ sym both.1
    | inr old ↦ work.same tells n bytes old
  ];
})

-- a vector whose bytes were all written over
pub refilled : (x items : List ℕ) (len : ℕ) → len ≡ length items → length x ≡ length items → take len (x ++ drop (length x) items) ≡ x
refilled x items len count same = ap (λ n. take n (x ++ drop (length x) items)) count ∙ all x items same
  where
    all : (x items : List ℕ) → length x ≡ length items → take (length items) (x ++ drop (length x) items) ≡ x
    all [] [] e = refl
    all [] (y ∷ ys) e = absurd (omega (arith, e))
    all (b ∷ bs) [] e = absurd (omega (arith, e))
    all (b ∷ bs) (y ∷ ys) e = ap (λ rest. b ∷ rest) (all bs ys (omega (arith, e)))

-- where the same blocks are kept
pub working_same : (s t : DiskState) (k new : Kept) → t ≡ s → IsWorking s k → new.entries ≡ k.entries → new.size ≡ k.size → IsWorking t new
working_same s t k new same work entries size = subst (λ u. IsWorking u new) (sym same) (record {
  idle = work.idle;
  size = size ∙ work.size;
  count = ap length entries ∙ work.count;
  same = λ tells b bytes at. work.same tells b bytes (ap (λ es. bytes_of (slice_get es b)) (sym entries) ∙ at);
})

-- nothing is kept yet
pub working_new : (s : DiskState) (k : Kept) → IsIdle s → k.size ≡ s.size → length k.entries ≡ s.count → All (λ kept. kept ≡ None) k.entries → IsWorking s k
working_new s k idle size count none = record { idle = idle; size = size; count = count; same = λ tells b bytes at. absurd (none_kept k.entries b bytes none at) }
