-- A directory that gets a name in a new draft, and then the time.
use Rattle.std.proofs.Common.{◌≡◌, inl, inr, ℕ, ◌+◌, ◌≤◌, ◌++◌, true, false, true≢false, List, length, take, drop, None, Some, Ok, refl, sym, ap, ◌∙◌, subst, arith, length-append}
use Rattle.std.proofs.Math.Seq.{take-append_seam}
use Rattle.std.proofs.lemmas.Bool.Decides.{nat_tests}
use Rattle.std.specs.Prelude.{Err, Result, is_ok}
use Rattle.std.specs.FinMap.{FinMap, get, empty, insert, get-empty}
use Rattle.std.specs.Ordering.{nat_cmp}
use Rattle.drafts.specs.Fates.{Drafted, seen_in, seen_with}
use Rattle.drafts.specs.declared.fate.Fate.{Fate}
use Rattle.drafts.specs.declared.fate.Fate.TheVariants.{Put}
use Rattle.gfs2_layout.specs.Headers.{HasHeader}
use Rattle.gfs2_layout.specs.Holding.{Holding}
use Rattle.gfs2_layout.specs.Inode.{is_hashed_in}
use Rattle.gfs2_layout.specs.Structures.{dinode_length, dinode_of, dinode_read, header_fault}
use Rattle.gfs2_layout.specs.Writing.{dinode_put}
use Rattle.gfs2_layout.proofs.HeaderLaws.{answer_ok}
use Rattle.glock_names.specs.Views.{Seen}
use Rattle.glock_names.specs.declared.steps.Entry.{Entry}
use Rattle.dinode_tree.specs.Reading.{inode_lock}
use Rattle.dinode_tree.specs.Shown as inode
use Rattle.linear_dirs.specs.Shown.{holding_over}
use Rattle.name_inserts.specs.DirectoryShown.{IsShown}
use Rattle.new_inodes.specs.Touched.{IsTouched, with_times}
use Rattle.name_inserts.specs.HashInserting.{MayChange, StaysInside}
use Rattle.name_inserts.specs.Inserting.{CanGetName, IsPutInLinear, PutsName}
use Rattle.name_inserts.specs.Need.{has_linear_room}
use Rattle.name_drafts.specs.Steps.{IsNamePut}
use Rattle.name_drafts.proofs.Fates.{seen_old}

-- two fronts before the same rest are the same
same_fronts : (xs ys rest : List ℕ) → xs ++ rest ≡ ys ++ rest → xs ≡ ys
same_fronts xs ys rest e =
    let long : length xs ≡ length ys = omega (arith, ap length e, length-append xs rest, length-append ys rest) in
    sym (take-append_seam xs rest) ∙ ap (take (length xs)) e ∙ ap (λ n. take n (ys ++ rest)) long ∙ take-append_seam ys rest

-- a room that is short of its rest
pub front_is : (room xs rest : List ℕ) (n : ℕ) → room ≡ xs ++ rest → n + length rest ≡ length room → take n room ≡ xs
front_is room xs rest n e long =
    let many : n ≡ length xs = omega (arith, long, ap length e, length-append xs rest) in
    ap (take n) e ∙ ap (λ k. take k (xs ++ rest)) many ∙ take-append_seam xs rest

module _ {V : Type 0} (seen : V → Seen) (old mid last : Drafted V) (dir : ℕ) (name : List ℕ) (e : Entry) (time : ℕ) (room left : List ℕ) (new : old.fates ≡ empty) (view_mid : mid.view ≡ old.view)
    (inside : StaysInside (seen_in seen old) old.fates mid.fates room left dir) where
  abbrev v : Seen
  v = seen old.view

  abbrev w : Seen
  w = seen_with v mid.fates

  old_is : seen_in seen old ≡ v
  old_is = seen_old seen old new

  mid_is : seen_in seen mid ≡ w
  mid_is = ap (λ x. seen_with (seen x) mid.fates) view_mid

  pub shorter : length left ≤ length room
  shorter = omega (arith, ap length inside.front, length-append inside.taken left)

  module _ (put : (h : Holding) → IsShown (seen_in seen old) dir h → CanGetName h name room → (g : Holding) × IsShown (seen_in seen mid) dir g × PutsName old.fates mid.fates room left name e h g)
      (linear : (h : Holding) → IsShown (seen_in seen old) dir h → is_hashed_in h ≡ false → has_linear_room h name ≡ true → (left ≡ room) × IsPutInLinear h (holding_over (seen_in seen mid) h) name e)
      (bytes : List ℕ) (there : (seen_in seen mid).block_at dir ≡ Some bytes) (final : List ℕ) (written : final ≡ dinode_put (with_times (dinode_of bytes) time) bytes)
      (put_last : last ≡ record mid { fates = insert mid.fates dir (Put (inode_lock dir) false final) }) (read_last : dinode_read final ≡ Ok (with_times (dinode_of bytes) time))
      (behind : drop dinode_length final ≡ drop dinode_length bytes) (touched : (h : Holding) → inode.IsShown (seen_in seen mid) dir h → IsTouched h (holding_over (seen_in seen last) h) time) where
    pub last_view : last.view ≡ old.view
    last_view = ap (λ (d : Drafted V). d.view) put_last ∙ view_mid

    last_is : seen_in seen last ≡ seen_with v last.fates
    last_is = ap (λ x. seen_with (seen x) last.fates) last_view

    name_put : IsNamePut v dir name e time room inside.taken last.fates
    name_put = record {
      left = left;
      front = inside.front;
      first = mid.fates;
      changes = λ b. elim (inside.changes b) [
        | inl same ↦ inl (same ∙ ap (λ (m : FinMap nat_cmp Fate). get m b) new ∙ get-empty nat_cmp b)
        | inr put ↦ inr (subst (λ x. MayChange x dir inside.taken b) old_is put.0, put.1)
      ];
      named = λ h shown can.
          let got = put h (subst (λ x. IsShown x dir h) (sym old_is) shown) can in (
            got.0,
            subst (λ x. IsShown x dir got.0) mid_is got.1,
            (
              subst (λ m. PutsName m mid.fates room left name e h got.0) new got.2,
              taken_same h got.0 (subst (λ m. PutsName m mid.fates room left name e h got.0) new got.2),
            ),
          );
      linear = λ h shown has. subst (λ x. IsPutInLinear h (holding_over x h) name e) mid_is (linear h (subst (λ x. IsShown x dir h) (sym old_is) shown) has.linear has.room).1;
      bytes = bytes;
      there = ap (λ (x : Seen). x.block_at dir) (sym mid_is) ∙ there;
      final = final;
      put = ap (λ (d : Drafted V). d.fates) put_last;
      written = written;
      dinode = (answer_ok (header_fault dinode_length 4 400 final) (dinode_of final) (with_times (dinode_of bytes) time) read_last).1;
      behind = behind;
      touched = λ h shown. subst (λ x. IsTouched h (holding_over x h) time) last_is (touched h (subst (λ x. inode.IsShown x dir h) (sym mid_is) shown));
    }
      where
        taken_same : (h g : Holding) (puts : PutsName empty mid.fates room left name e h g) → puts.taken ≡ inside.taken
        taken_same h g puts = same_fronts puts.taken inside.taken left (sym puts.front ∙ inside.front)

    -- as many as it took, of the same room
    pub name_put_in : (whole : List ℕ) (n : ℕ) → room ≡ whole → n + length left ≡ length whole → IsNamePut v dir name e time whole (take n whole) last.fates
    name_put_in whole n same long =
        subst (λ xs. IsNamePut v dir name e time xs (take n xs) last.fates) same
        (subst (λ xs. IsNamePut v dir name e time room xs last.fates) (sym (front_is room inside.taken left n inside.front (long ∙ ap length (sym same)))) name_put)

-- ---- whether there is a dinode's header

pub header_well : (bytes : List ℕ) → dinode_length ≤ length bytes → HasHeader 4 400 bytes → header_fault dinode_length 4 400 bytes ≡ None
header_well bytes long header = grind (arith, nat_tests, header.magic_is, header.kind_is, header.format_is)

pub ok_there : {A B : Type 0} (r : Result A B) → is_ok r ≡ true → (x : A) × (r ≡ Ok x)
ok_there (Ok x) so = (x, refl)
ok_there (Err f) so = absurd (true≢false (sym so))
