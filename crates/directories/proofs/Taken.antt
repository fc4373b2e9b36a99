-- A directory from which a name was taken, whatever its form.
use Rattle.std.proofs.Common.{◌≡◌, ◌≢◌, ◌+◌, ◌≤◌, ℕ, true, false, true≢false, inl, inr, List, [], ◌∷◌, ◌++◌, length, take, drop, Option, None, Some, Ok, refl, sym, ap, ◌∙◌, subst, subst₂, arith}
use Rattle.std.proofs.lemmas.Bool.{cases_eq, cond-false}
use Rattle.std.proofs.lemmas.List.{length-append, length-take-le}
use Rattle.std.specs.Prelude.{IsSome}
use Rattle.std.specs.Option.{option_map}
use Rattle.std.specs.Cmp.{nat_cmp_total}
use Rattle.std.specs.FinMap.{FinMap, get, insert, nat_cmp-IsAntisymmetric}
use Rattle.std.specs.Ordering.{nat_cmp}
use Rattle.finite_maps.proofs.Keys.{inserted_at, inserted_apart}
use Rattle.drafts.specs.Fates.{Drafted, seen_in}
use Rattle.drafts.specs.declared.fate.Fate.{Fate}
use Rattle.drafts.specs.declared.fate.Fate.TheVariants.{Put}
use Rattle.gfs2_layout.specs.Holding.{Holding, bytes_at}
use Rattle.gfs2_layout.specs.Inode.{dinode_in, is_hashed_in, linear_area, records_of}
use Rattle.gfs2_layout.specs.Records.{Record, record_named, records_in}
use Rattle.gfs2_layout.specs.Structures.{dinode_length, dinode_of, dinode_read}
use Rattle.glock_names.specs.Views.{Seen, HasBlock, IsView}
use Rattle.glock_names.specs.declared.steps.Entry.{Entry}
use Rattle.image_model.proofs.Held.{none_some}
use Rattle.dinode_tree.specs.Pads.{KeepsPads, dinode_over}
use Rattle.dinode_tree.specs.Reading.{inode_lock}
use Rattle.dinode_tree.specs.Shown as inode
use Rattle.linear_dirs.specs.Exchanges.{HasExchanged, IsCutFrom, IsLaidOver, uncounted}
use Rattle.linear_dirs.specs.Shown.{holding_over, entry_of}
use Rattle.linear_dirs.specs.Shown as linear
use Rattle.linear_dirs.proofs.Looked.{bytes_of}
use Rattle.linear_dirs.proofs.Over.{as_seen}
use Rattle.linear_dirs.proofs.Rewritten.{over_there, seen_at}
use Rattle.tree_tables.specs.Exchanging as exchanging
use Rattle.tree_tables.specs.Finding.{IsFirstNamed, IsLeafOfName, in_leaf, in_none, nowhere}
use Rattle.tree_tables.specs.Shown.{IsSound, index_for}
use Rattle.directories.specs.Shown.{IsShown, Says}
use Rattle.directories.specs.Shown as directory
use Rattle.directories.specs.Taking.{HasNameIn, HasRecordOf, IsWithoutName, PutsTwo, in_hashed, in_linear}
use Rattle.directories.proofs.Forms.{some_directory}
use Rattle.directories.proofs.Headed.{reads_put}
use Rattle.directories.proofs.Sound.{says_once}

-- a dinode that keeps the pads of an old one has its header
pads_read : (old new : List ℕ) → dinode_length ≤ length old → KeepsPads old new → dinode_read new ≡ Ok (dinode_of new)
unfolding KeepsPads dinode_over
pads_read old new large keeps =
    subst (λ bytes. dinode_read bytes ≡ Ok (dinode_of bytes)) (sym keeps)
    (reads_put (dinode_of new) (take dinode_length old ++ drop dinode_length new) (omega (arith, length-append (take dinode_length old) (drop dinode_length new), length-take-le dinode_length old large)))

put_at : (fates : FinMap nat_cmp Fate) (b : ℕ) (fate : Fate) → get (insert fates b fate) b ≡ Some fate
put_at fates b fate = inserted_at nat_cmp_total nat_cmp-IsAntisymmetric fates b fate

put_apart : (fates : FinMap nat_cmp Fate) (b c : ℕ) (fate : Fate) → c ≢ b → get (insert fates b fate) c ≡ get fates c
put_apart fates b c fate other = inserted_apart nat_cmp_total nat_cmp-IsAntisymmetric fates b fate c other

-- ---- a linear one

module _ {V : Type 0} (seen : V → Seen) (old new : Drafted V) (dir : ℕ) (name : List ℕ) where
  abbrev v : Seen
  v = seen_in seen old

  abbrev w : Seen
  w = seen_in seen new

  pub linear_without : ((h : Holding) → IsShown v dir h → is_hashed_in h ≡ false)
      → ((h : Holding) (r : Record) → inode.IsShown v dir h → record_named (records_of h) name ≡ Some r → HasExchanged h (holding_over w h) (r ∷ []) [])
      → ((h : Holding) → inode.IsShown v dir h → IsCutFrom h (holding_over w h) name)
      → ((h : Holding) → inode.IsShown v dir h → uncounted (dinode_in (holding_over w h)) ≡ uncounted (dinode_in h))
      → ((h : Holding) → inode.IsShown v dir h → IsLaidOver (bytes_at h h.own) (bytes_at (holding_over w h) h.own)) → IsWithoutName v w dir name dir
  linear_without plain removed cut dinode laid = record {
    from = λ h shown. subst (HasRecordOf h name) shown.inode.own (in_linear (plain h shown));
    removed = λ h r shown sound named. removed h r shown.inode named;
    in_linear = λ h shown linear. record { cut = cut h shown.inode; dinode = dinode h shown.inode; laid = laid h shown.inode };
    in_hashed = λ h shown is sound. absurd (true≢false (sym is ∙ plain h shown));
  }

  pub linear_puts : IsView v → HasBlock v dir → (bytes : List ℕ) → new ≡ record old { fates = insert old.fates dir (Put (inode_lock dir) false bytes) }
      → ((h : Holding) → inode.IsShown v dir h → IsLaidOver (bytes_at h h.own) (bytes_at (holding_over w h) h.own)) → PutsTwo seen old new dir dir
  linear_puts view there bytes put laid =
      let s = some_directory v dir view in
      let shown = s.1.inode in
      let seen_now : w.block_at dir ≡ Some bytes = ap (λ (d : Drafted V). (seen_in seen d).block_at dir) put ∙ seen_at (seen old.view) old.fates dir (inode_lock dir) bytes in
      let now : bytes_at (holding_over w s.0) s.0.own ≡ bytes =
      as_seen w s.0 s.0.own bytes (over_there (w.block_at s.0.own) (s.0.cell s.0.own) ∙ shown.dinode) (ap w.block_at shown.own ∙ seen_now) in
      let was : bytes_at s.0 s.0.own ≡ there.0 = bytes_of v s.0 dir there.0 shown there.1 in
      let large : dinode_length ≤ length there.0 = omega (arith, view.whole dir there.0 there.1, view.block_size) in
      let fates : get new.fates dir ≡ Some (Put (inode_lock dir) false bytes) = ap (λ (d : Drafted V). get d.fates dir) put ∙ put_at old.fates dir (Put (inode_lock dir) false bytes) in
      record {
        view = ap (λ (d : Drafted V). d.view) put;
        there = there;
        leaf_there = there;
        inside = inl refl;
        bytes = bytes;
        dinode = dinode_of bytes;
        put = fates;
        read = pads_read there.0 bytes large (subst₂ KeepsPads was now (laid s.0 shown).pads);
        leaf_put = (bytes, fates);
        others = λ b other away. ap (λ (d : Drafted V). get d.fates b) put ∙ put_apart old.fates dir b (Put (inode_lock dir) false bytes) other;
      }

  -- ---- a hashed one

  module _ (leaf : ℕ) where
    pub hashed_without : ((h : Holding) → IsShown v dir h → is_hashed_in h ≡ true) → ((h : Holding) → IsShown v dir h → IsLeafOfName h name (Some leaf))
        → ((h : Holding) (r : Record) → IsShown v dir h → IsSound h → record_named (records_of h) name ≡ Some r → HasExchanged h (holding_over w h) (r ∷ []) [])
        → ((h : Holding) → IsShown v dir h → IsSound h → (cut : exchanging.IsCutFrom h (holding_over w h) name) × (cut.leaf ≡ leaf))
        → ((h : Holding) → IsShown v dir h → IsSound h → KeepsPads (bytes_at h h.own) (bytes_at (holding_over w h) h.own)) → IsWithoutName v w dir name leaf
    hashed_without hashed found removed cut pads = record {
      from = λ h shown. in_hashed leaf (hashed h shown) (found h shown);
      removed = λ h r shown sound named. removed h r shown (sound (hashed h shown)) named;
      in_linear = λ h shown plain. absurd (true≢false (sym (hashed h shown) ∙ plain));
      in_hashed = λ h shown is sound. let c = cut h shown sound in record { cut = c.0; in_leaf = c.1; pads = pads h shown sound };
    }

    pub hashed_puts : HasBlock v dir → exchanging.ArePut seen old new dir leaf → PutsTwo seen old new dir leaf
    hashed_puts there two =
        let own : get new.fates dir ≡ Some (Put (inode_lock dir) false two.block) =
        ap (λ (d : Drafted V). get d.fates dir) two.put ∙ put_at (insert old.fates leaf (Put (inode_lock dir) false two.new_leaf)) dir (Put (inode_lock dir) false two.block) in
        record {
          view = ap (λ (d : Drafted V). d.view) two.put;
          there = there;
          leaf_there = two.there;
          inside = inr two.inside;
          bytes = two.block;
          dinode = two.dinode;
          put = own;
          read = two.read;
          leaf_put = elim (cases_eq leaf dir) [
            | inl same ↦ (two.block, ap (get new.fates) same ∙ own)
            | inr other ↦ (
              two.new_leaf,
              ap (λ (d : Drafted V). get d.fates leaf) two.put ∙ put_apart (insert old.fates leaf (Put (inode_lock dir) false two.new_leaf)) dir leaf (Put (inode_lock dir) false two.block) other
                  ∙ put_at old.fates leaf (Put (inode_lock dir) false two.new_leaf),
            )
          ];
          others = λ b other away. ap (λ (d : Drafted V). get d.fates b) two.put ∙ put_apart (insert old.fates leaf (Put (inode_lock dir) false two.new_leaf)) dir b (Put (inode_lock dir) false two.block) other
              ∙ put_apart old.fates leaf b (Put (inode_lock dir) false two.new_leaf) away;
        }

-- a name that leads somewhere is in a leaf
pub in_some_leaf : (h : Holding) (name : List ℕ) (found : Option Entry) (e : Entry) → is_hashed_in h ≡ true → Says h name found → found ≡ Some e → IsLeafOfName h name None → ⊥
in_some_leaf h name _ e hashed (directory.Says.in_linear plain) some none = true≢false (sym hashed ∙ plain)
in_some_leaf h name _ e hashed (directory.Says.in_hashed found is small by) some (in_none ends later heads) = absent by.named by.first (sym by.leads ∙ some)
  where
    absent : (o : Option Record) → IsFirstNamed h (index_for h name) name o → option_map entry_of o ≡ Some e → ⊥
    absent _ (in_leaf place x r chain is before up) leads = none_some (sym (later (place + 1) place x (omega arith) chain) ∙ is)
    absent _ (nowhere ends before up) leads = none_some leads

pub is_there : {A : Type 0} (o : Option A) (x : A) → o ≡ Some x → IsSome o
is_there None x e = absurd (none_some e)
is_there (Some y) x e = refl

-- ---- the name of a linear directory, in the block that the view has

linear_records : (h : Holding) → is_hashed_in h ≡ false → records_of h ≡ records_in (linear_area h)
unfolding records_of
linear_records h plain = cond-false _ _ _ plain

record_of_entry : (x : Option Record) (e : Entry) → Some e ≡ option_map entry_of x → (r : Record) × (x ≡ Some r)
record_of_entry None e is = absurd (none_some (sym is))
record_of_entry (Some r) e is = (r, refl)

pub named_linear : (v : Seen) (dir : ℕ) (name : List ℕ) → IsView v → ((h : Holding) → IsShown v dir h → is_hashed_in h ≡ false) → HasNameIn v dir name → linear.HasNameIn v dir name
named_linear v dir name view linear named bytes there =
    let s = some_directory v dir view in
    let plain = linear s.0 s.1 in
    let has = named s.0 s.1 in
    let r = record_of_entry (record_named (records_of s.0) name) has.0 (says_once s.0 name _ _ has.1 (directory.Says.in_linear plain)) in
    let same : records_of s.0 ≡ records_in (drop dinode_length bytes) = linear_records s.0 plain ∙ ap (λ x. records_in (drop dinode_length x)) (bytes_of v s.0 dir bytes s.1.inode there) in
    (r.0, ap (λ records. record_named records name) (sym same) ∙ r.1)
