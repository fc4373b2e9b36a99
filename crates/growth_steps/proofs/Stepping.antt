-- One step in a draft.
use Rattle.std.proofs.Common.{◌≡◌, ◌≢◌, ℕ, zero, suc, ◌-◌, ◌*◌, ◌^◌, ◌<◌, ◌≤◌, ◌==◌, false, List, ◌∷◌, [], length, None, Some, Result, Ok, Err, OnOk, OnErr, refl, sym, ap, ◌∙◌, subst, arith}
use Rattle.std.proofs.lemmas.List.{length-replicate, drop-replicate}
use Rattle.std.specs.Prelude.{replicate}
use Rattle.std.specs.List.{AllByRecursion}
use Rattle.std.specs.FinMap.{insert}
use Rattle.drafts.specs.Fates.{Drafted, seen_in, seen_with}
use Rattle.drafts.specs.declared.fate.Fate.TheVariants.{Put, Freed}
use Rattle.gfs2_layout.specs.Fields.{Field, HasItsWidth}
use Rattle.gfs2_layout.specs.Holding.{Part, Pointed, Holding, part_at, bytes_at}
use Rattle.gfs2_layout.specs.Inode.{content_count, fan, header_length, pointer, IsPointed}
use Rattle.gfs2_layout.specs.Writing.{header_fields}
use Rattle.gfs2_layout.specs.declared.header.MetaHeader.{MetaHeader}
use Rattle.gfs2_layout.proofs.FieldsInPlace.{length-fields, field-read, drop-fields}
use Rattle.glock_names.specs.Views.{Seen}
use Rattle.dinode_tree.specs.Reading.{inode_lock}
use Rattle.dinode_tree.specs.Shown.{IsShown}
use Rattle.dinode_tree.proofs.Sound.{is_there}
use Rattle.growth_laws.specs.Blocks.{start_in, with_pointer, IsNewBlock, filled_cells, freed_cells}
use Rattle.growth_laws.specs.Files.{IsFile, with_cells}
use Rattle.growth_laws.proofs.Numbers.{zeros_are_no_number}
use Rattle.growth_laws.proofs.Places.{size_large}
use Rattle.growth_drafts.proofs.Shown.{fills_are_shown, frees_are_shown, from_there}
use Rattle.growth_steps.specs.New.{new_bytes}

-- ---- a new block

abbrev pub head : MetaHeader
head = record { kind = 5; format = 500; jid = 0 }

first_field : (fs : List Field) → 0 < length fs → Field
first_field [] some = absurd (omega (arith, some))
first_field (f ∷ fs) some = f

any_field : Field
any_field = first_field (header_fields head) (omega arith)

widths : AllByRecursion HasItsWidth (header_fields head)
widths = (omega arith, (omega arith, (omega arith, (omega arith, tt))))

pub new_length : (size level : ℕ) → 24 ≤ size → length (new_bytes size level) ≡ size
new_length size zero large = length-replicate size 0
new_length size (suc level) large =
    let long : 24 ≤ length (replicate {A = ℕ} size 0) = omega (arith, large, length-replicate {A = ℕ} size 0) in
    length-fields (header_fields head) (replicate size 0) long ∙ length-replicate size 0

pub is_new_block : (size level : ℕ) → 24 ≤ size → IsNewBlock size level (new_bytes size level)
is_new_block size zero large = record {
  whole = new_length size zero large;
  zeros = λ e. refl;
  header = λ below e. absurd (omega (arith, e));
  leads_nowhere = λ below j e. absurd (omega (arith, e));
}
is_new_block size (suc level) large = record {
  whole = new_length size (suc level) large;
  zeros = λ e. absurd (omega (arith, e));
  header = λ below e. record {
    magic_is = field-read (header_fields head) 0 any_field (replicate size 0) long widths refl;
    kind_is = field-read (header_fields head) 1 any_field (replicate size 0) long widths refl;
    format_is = field-read (header_fields head) 2 any_field (replicate size 0) long widths refl;
  };
  leads_nowhere = λ below j e. zeros_are_no_number (new_bytes size (suc level)) header_length (8 * j) (size - 24)
      (drop-fields (header_fields head) (replicate size 0) long 24 (omega arith) ∙ drop-replicate 24 size 0);
}
  where
    long : 24 ≤ length (replicate {A = ℕ} size 0)
    long = omega (arith, large, length-replicate {A = ℕ} size 0)

-- ---- what the draft saw of the block with the pointer

seen_from : (v : Seen) (h : Holding) (from : ℕ) (bytes : List ℕ) → IsFile h → IsShown v h.own h → (p : Part) × (part_at h from ≡ Some p) → v.block_at from ≡ Some bytes → bytes_at h from ≡ bytes
seen_from v h from bytes file shown part is = shown.same from bytes (is_there (h.cell from) part.0 part.1) is

module _ {V : Type 0} (seen : V → Seen) (old now : Drafted V) (inode from start k b : ℕ) (bytes : List ℕ) (there : (seen_in seen old).block_at from ≡ Some bytes) (h : Holding) (file : IsFile h)
    (shown : IsShown (seen_in seen old) inode h) (start_is : start_in h from ≡ start) where
  shown_own : IsShown (seen_in seen old) h.own h
  shown_own = subst (λ a. IsShown (seen_in seen old) a h) (sym shown.own) shown

  pub filled_after : (level first : ℕ) → now ≡ record old { fates = insert (insert old.fates from (Put (inode_lock inode) false (with_pointer start k b bytes))) b (Put (inode_lock inode) (level == 0) (new_bytes (seen old.view).size level)) }
      → IsPointed h 0 from k level first → first < content_count h → h.cell b ≡ None → b ≢ 0 → b < h.count → b < 2 ^ 64
      → IsShown (seen_in seen now) inode (with_cells h (filled_cells h from k level first b (new_bytes h.size level)))
  filled_after level first is hole within unused some inside low =
      let new = new_bytes h.size level in
      let put = with_pointer start k b bytes in
      let large : 24 ≤ h.size = omega (arith, size_large h.size file.block_size) in
      let put_is : with_pointer start k b bytes ≡ with_pointer (start_in h from) k b (bytes_at h from)
      = (λ t. with_pointer (start_is_back t) k b (bytes_back t)) in
      let made : IsShown (seen_with (seen old.view) (insert (insert old.fates from (Put (inode_lock inode) false put)) b (Put (inode_lock inode) (level == 0) new))) h.own (with_cells h (filled_cells h from k level first b new))
      = fills_are_shown (seen old.view) old.fates h from k level first b put new (inode_lock inode) (inode_lock inode) false (level == 0) file shown_own hole within unused some inside low (is_new_block h.size level large) put_is in
      let sizes : new_bytes (seen old.view).size level ≡ new = ap (λ n. new_bytes n level) (sym shown.size) in
      subst (λ (d : Drafted V). IsShown (seen_in seen d) inode (with_cells h (filled_cells h from k level first b new))) (sym is)
      (subst (λ xs. IsShown (seen_with (seen old.view) (insert (insert old.fates from (Put (inode_lock inode) false put)) b (Put (inode_lock inode) (level == 0) xs))) inode (with_cells h (filled_cells h from k level first b new))) (sym sizes)
      (subst (λ a. IsShown (seen_with (seen old.view) (insert (insert old.fates from (Put (inode_lock inode) false put)) b (Put (inode_lock inode) (level == 0) new))) a (with_cells h (filled_cells h from k level first b new))) shown.own made))
    where
      start_is_back : start ≡ start_in h from
      start_is_back = sym start_is

      bytes_back : bytes ≡ bytes_at h from
      bytes_back = sym (seen_from (seen_in seen old) h from bytes file shown_own (from_there h 0 from k level first file hole) there)

  pub freed_after : (level first : ℕ) → now ≡ record old { fates = insert (insert old.fates from (Put (inode_lock inode) false (with_pointer start k 0 bytes))) b Freed }
      → part_at h b ≡ Some (Pointed from k level first) → b < h.count
      → ((below j : ℕ) → level ≡ suc below → j < fan h.size header_length → pointer h header_length b j ≡ 0)
      → IsShown (seen_in seen now) inode (with_cells h (freed_cells h from k b))
  freed_after level first is part inside nowhere =
      let put = with_pointer start k 0 bytes in
      let put_is : with_pointer start k 0 bytes ≡ with_pointer (start_in h from) k 0 (bytes_at h from) = (λ t. with_pointer (start_is_back t) k 0 (bytes_back t)) in
      let made : IsShown (seen_with (seen old.view) (insert (insert old.fates from (Put (inode_lock inode) false put)) b Freed)) h.own (with_cells h (freed_cells h from k b))
      = frees_are_shown (seen old.view) old.fates h from k level first b put (inode_lock inode) false file shown_own part inside nowhere put_is in
      subst (λ (d : Drafted V). IsShown (seen_in seen d) inode (with_cells h (freed_cells h from k b))) (sym is)
      (subst (λ a. IsShown (seen_with (seen old.view) (insert (insert old.fates from (Put (inode_lock inode) false put)) b Freed)) a (with_cells h (freed_cells h from k b))) shown.own made)
    where
      start_is_back : start ≡ start_in h from
      start_is_back = sym start_is

      bytes_back : bytes ≡ bytes_at h from
      bytes_back = sym (seen_from (seen_in seen old) h from bytes file shown_own (from_there h b from k level first file (file.tree.pointed b from k level first part)) there)

-- an answer that is there
pub on_ok : {E : Type 0} (r : Result Unit E) (P Q : Type 0) → (P → Q) → OnOk r P → OnOk r Q
on_ok (Ok u) P Q to p = to p
on_ok (Err e) P Q to p = tt

-- whatever is answered
pub on_either : {E : Type 0} (r : Result Unit E) (P Q R : Type 0) → (P → R) → (Q → R) → OnOk r P → OnErr r Q → R
on_either (Ok u) P Q R ok err p q = ok p
on_either (Err e) P Q R ok err p q = err q
