-- A draft that changes a file's content makes what the call should.
use Rattle.std.proofs.Common.{◌≡◌, ℕ, ◌⊎◌, inl, inr, Bool, true, true≢false, zero, suc, List, [], ◌∷◌, Option, None, Some, refl, sym, ap, ◌∙◌, subst}
use Rattle.std.specs.Ordering.{nat_cmp}
use Rattle.std.specs.FinMap.{FinMap, get}
use Rattle.std.proofs.lemmas.Bool.{cond-true, eq-eqb}
use Rattle.file_tree.specs.Tree.{Tree, file}
use Rattle.file_tree.specs.Apply.{apply, put_at}
use Rattle.file_tree.specs.declared.call.Call.{Call}
use Rattle.file_tree.specs.declared.reply.Reply.TheVariants.{Ok}
use Rattle.drafts.specs.declared.change.Written.{Written}
use Rattle.drafts.specs.declared.fate.Fate.{Fate}
use Rattle.drafts.specs.declared.fate.Fate.TheVariants.{Put, Freed}
use Rattle.gfs2_layout.specs.Holding.{Itself, Pointed}
use Rattle.gfs2_layout.specs.Inode.{Head, IsInode, content_of}
use Rattle.gfs2_layout.specs.Structures.{is_regular}
use Rattle.glock_names.specs.Views.{Seen}
use Rattle.glock_names.specs.declared.LockName.{LockName}
use Rattle.image_model.specs.Flat.{Path}
use Rattle.image_model.specs.Image.{Image}
use Rattle.image_model.specs.Owners.{Owner, Owners, Super, InGroup, Free, Nobody, Root, Master, Named, Below, Chained, part_in, holding}
use Rattle.image_model.specs.Stands.{Layout, heads_of}
use Rattle.image_model.proofs.Held.{none_some, some_same}
use Rattle.image_changes.specs.Changes.{inode_of, IsChange, cover}
use Rattle.image_changes.specs.Does.{IsOf, IsWritten, is_content_of}
use Rattle.image_changes.specs.Drafted.{is_put, is_freed, is_drafted, with_draft, MakesIn, file_changed}
use Rattle.image_changes.specs.Instances.{IsAt, among, dinode_at, IsFileChanged}
use Rattle.image_changes.proofs.Drafting.{own_locks}
use Rattle.image_changes.proofs.Frame.{inode_cover}
use Rattle.image_changes.proofs.Nodes.{among_in, in_among}
use Rattle.draft_changes.specs.Rewriting.{is_content_part, IsPutInFile, RewritesFile, RewritingMakes}
use Rattle.draft_changes.proofs.Rows.{of_its, its_used, cell_its, part_there}
use Rattle.draft_changes.proofs.Framed.{none_drafted, put_drafted, gone_there, MakesOf, leaves, of_inodes, IsFramed, framed_change}

-- a block of a regular file is its content where its part tells so
pub content_same : (im : Image) (o : Owners) (a b : ℕ) (x : Owner) → is_regular (dinode_at im o a) ≡ true → inode_of b x ≡ Some a → is_content_of im o x ≡ is_content_part (part_in a b x)
content_same im o a b (Below d above k zero first) plain e = ap (λ z. is_regular (dinode_at im o z)) (some_same e) ∙ plain ∙ sym (ap is_content_part (cond-true _ (Some (Pointed above k 0 first)) None (eq-eqb d a (some_same e))))
content_same im o a b (Below d above k (suc level) first) plain e = sym (ap is_content_part (cond-true _ (Some (Pointed above k (suc level) first)) None (eq-eqb d a (some_same e))))
content_same im o a b (Chained d hash place) plain e = sym (ap is_content_part (cond-true _ _ None (eq-eqb d a (some_same e))))
content_same im o a b Root plain e = sym (ap is_content_part (cond-true _ (Some Itself) None (eq-eqb b a (some_same e))))
content_same im o a b Master plain e = sym (ap is_content_part (cond-true _ (Some Itself) None (eq-eqb b a (some_same e))))
content_same im o a b (Named parent name) plain e = sym (ap is_content_part (cond-true _ (Some Itself) None (eq-eqb b a (some_same e))))
content_same im o a b Super plain e = absurd (none_some e)
content_same im o a b (InGroup g) plain e = absurd (none_some e)
content_same im o a b (Free g) plain e = absurd (none_some e)
content_same im o a b Nobody plain e = absurd (none_some e)

module _ (v : Seen) (call : Call) (fates : FinMap nat_cmp Fate) (im : Image) (o : Owners) (l : Layout) (t : Tree) (path : Path) (a : ℕ)
    (here : IsOf v im o l t) (at : IsAt im o l path a) (is : RewritesFile im o fates a) where
  abbrev im' : Image
  im' = with_draft im fates

  abbrev ys : List ℕ
  ys = a ∷ []

  a_in : among ys a ≡ true
  a_in = in_among ys a (inl refl)

  only : (y : ℕ) → among ys y ≡ true → y ≡ a
  only y e = elim (among_in ys y e) [ inl same ↦ same | inr h ↦ elim h [ ] ]

  its : (b : ℕ) (lock : LockName) (plain : Bool) (bytes : List ℕ) → get fates b ≡ Some (Put lock plain bytes) → inode_of b (o b) ≡ Some a
  its b lock plain bytes e = cell_its im o a b (is.puts b lock plain bytes e).own

  block : (b : ℕ) → MakesOf o o fates ys [] b
  block b = by (get fates b) refl
    where
      by : (f : Option Fate) → get fates b ≡ f → MakesOf o o fates ys [] b
      by None e = leaves (none_drafted fates b e) refl
      by (Some Freed) e = absurd (is.kept b e)
      by (Some (Put lock plain bytes)) e =
          let of = of_its (among ys) b a (o b) (its b lock plain bytes e) a_in in
          of_inodes (put_drafted fates b lock plain bytes e) of of

  framed : IsFramed im o o l fates ys []
  framed = record {
    laid = here.stands.laid;
    whole = is.whole;
    listed = λ g h. elim h [ ];
    groups = λ g h. elim h [ ];
    blocks = block;
    freed = λ b x e. inl e;
    states = λ b. inl refl;
  }

  change : IsChange im im' o o l (among ys) (is_drafted fates)
  change = framed_change im o o l fates ys [] framed
      (λ y h so. subst (λ z. IsInode (holding im' o z)) (sym (only y h)) is.rewritten.sound)
      (λ b y h within. here.stands.laid.within b y within)
      (λ y h so so'. subst (λ z. heads_of im' o z ≡ heads_of im o z) (sym (only y h)) is.rewritten.head)

  changed : IsFileChanged im im' o o l (is_drafted fates) a
  changed = record { change = change; row = refl; file = is.is_file; short = is.rewritten.short }

  regular : is_regular (dinode_at im' o a) ≡ true
  regular = elim is.rewritten.sound.mode [
    | inl dir ↦ absurd (true≢false (sym dir ∙ ap (λ (h : Head). h.is_dir) is.rewritten.head ∙ is.is_file))
    | inr so ↦ so
  ]

  written : (w : Written) (lock : LockName) → get fates w.block ≡ Some (Put lock w.plain w.bytes) → IsWritten l im' o o w lock
  written w lock e = record {
    told = covered;
    used = (its_used w.block a (o w.block) of).1;
    plain = put.is_plain ∙ ap is_content_part (part_there im o a w.block) ∙ sym (content_same im' o a w.block (o w.block) regular of);
    stayed = inl covered;
  }
    where
      of : inode_of w.block (o w.block) ≡ Some a
      of = its w.block lock w.plain w.bytes e

      put : IsPutInFile (holding im o a) w.block lock w.plain
      put = is.puts w.block lock w.plain w.bytes e

      covered : cover l w.block (o w.block) ≡ Some lock
      covered = inode_cover l w.block (o w.block) a of ∙ own_locks im o l a here.stands.laid (inl (path, at)) ∙ ap Some (sym put.under)

  none_freed : (b : ℕ) → is_freed fates b ≡ true → ⊥
  none_freed b e = is.kept b (gone_there fates b e)

  -- no block is taken or freed
  groups : (b g : ℕ) → is_drafted fates b ≡ true → (o b ≡ Free g) ⊎ (o b ≡ Free g) → (n : ℕ) × (is_put fates n ≡ true) × (o n ≡ InGroup g)
  groups b g drafted which = absurd (by (get fates b) refl)
    where
      free : o b ≡ Free g
      free = elim which [ inl e ↦ e | inr e ↦ e ]

      by : (f : Option Fate) → get fates b ≡ f → ⊥
      by None e = true≢false (sym drafted ∙ none_drafted fates b e)
      by (Some Freed) e = is.kept b e
      by (Some (Put lock plain bytes)) e = none_some (sym (ap (inode_of b) free) ∙ its b lock plain bytes e)

  makes : apply call t ≡ record { reply = Ok; tree = put_at path (file (content_of (holding im' o a))) t } → MakesIn v call Ok fates im o l t
  makes answers = record {
    owners = o;
    tree = put_at path (file (content_of (holding im' o a))) t;
    answers = answers;
    one = file_changed path a at changed;
    written = written;
    freed = λ b e. absurd (none_freed b e);
    held = λ b e. absurd (none_freed b e);
    groups = groups;
  }

pub rewriting_makes : RewritingMakes
rewriting_makes v call fates im o l t path a here at is answers = makes v call fates im o l t path a here at is answers
