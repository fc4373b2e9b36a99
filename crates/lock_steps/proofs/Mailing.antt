-- A call of the mail is no step.
use Rattle.std.proofs.Common.{ℕ, ◌≡◌, ◌≤◌, sym, subst}
use Rattle.std.specs.List.{AllByRecursion, filter_map}
use Rattle.glock_names.specs.declared.LockName.{LockName}
use Rattle.lock_steps.specs.Parts.{Parts, Post, way}
use Rattle.lock_steps.specs.Ties.{Sight, sight, Fits, in_view, tells, grants}
use Rattle.lock_steps.specs.Laws.{MailIsNoStep}
use Rattle.lock_steps.proofs.Ways.{mail-keeps}

same-sight : (lock : LockName) (p : Parts) (post : Post) (k : ℕ) → way post k p.master ≡ way p.post k p.master → way post p.master k ≡ way p.post p.master k
    → sight lock p k ≡ sight lock (record p { post = post }) k
same-sight lock p post k up down t = record (sight lock p k) {
  up = filter_map (in_view p.membership.generation (tells lock)) (sym up t);
  down = filter_map (in_view p.membership.generation (grants lock)) (sym down t);
}

pub mail-is-none : MailIsNoStep
mail-is-none lock p post l call tied =
    let same : (i k : ℕ) → i ≤ 8 → k ≤ 8 → way post i k ≡ way p.post i k = mail-keeps p.post post call in
    record {
      nodes = λ k x. subst (λ (s : Sight). Fits s (l k)) (same-sight lock p post k (same k p.master x tied.master) (same p.master k tied.master x)) (tied.nodes k x);
      others = tied.others;
      master = tied.master;
      table = tied.table;
      done = tied.done;
      unheard = tied.unheard;
      mail = λ i k x y. subst (AllByRecursion (λ m. m.generation ≤ p.membership.generation)) (sym (same i k x y)) (tied.mail i k x y);
    }
