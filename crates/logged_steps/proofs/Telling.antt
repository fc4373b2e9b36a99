-- The items of steps tell the operations on the disk, and a run came by each front of its items.
use Rattle.std.proofs.Common.{◌≡◌, ◌≤◌, ◌<◌, ℕ, zero, suc, ◌⊎◌, inl, inr, List, [], ◌∷◌, ◌++◌, drop, length, map, take, Option, None, Some, refl, sym, ap, subst, ◌∙◌, arith, le_refl}
use Rattle.std.specs.List.{AllByRecursion}
use Rattle.std.proofs.lemmas.List.{length-append}
use Rattle.disk_items.specs.Deeds.{AreDoneBy, deed_of}
use Rattle.disk_items.specs.Laws.{ItemsGoOn}
use Rattle.shared_disk.specs.Disk.{Barrier, DiskState, Gains, Operation, Write}
use Rattle.trace_text.specs.declared.item.TraceItem.{TraceItem}
use Rattle.logged_steps.specs.Disks.{disk_after, first_told, told_count, with_operation}
use Rattle.logged_steps.specs.Laws.{CameBy, FrontsArePassed, StepsAreTold, StepsGoOn, TellsWhatItDoes}
use Rattle.logged_steps.specs.Points.{IsOfRun, Point}
use Rattle.logged_steps.specs.Steps.{Step, Steps, Reads, Answers, AnswersQuietly, Syncs, TellsFull, HasNoSpace, BeginsFlush, BeginsHeader, WritesLog, EndsBlocks, WritesHead, EndsFlush, Commits, GoesHome, Rests, Unmounts, Here, Then}

-- ---- one step

-- it adds one item, or none, with the operations that this tells, and the disk is what these make
pub data Adds (p q : Point) : Type 0 where
  nothing : q.items ≡ p.items → q.list ≡ p.list → q.disk ≡ p.disk → Adds p q
  an_item : (item : TraceItem) (operations : List Operation) → q.items ≡ p.items ++ item ∷ [] → IsOfRun item → AreDoneBy (item ∷ []) operations → Gains p.list q.list operations
      → q.disk ≡ disk_after p.disk operations → Adds p q

pub append_nil : {A : Type 0} (xs : List A) → xs ++ [] ≡ xs
append_nil [] = refl
append_nil (x ∷ xs) = ap (λ ys. x ∷ ys) (append_nil xs)

pub append_assoc : {A : Type 0} (xs ys zs : List A) → (xs ++ ys) ++ zs ≡ xs ++ (ys ++ zs)
append_assoc [] ys zs = refl
append_assoc (x ∷ xs) ys zs = ap (λ l. x ∷ l) (append_assoc xs ys zs)

gains_none : (list : Option (List Operation)) → Gains list list []
gains_none None = tt
gains_none (Some operations) = sym (append_nil operations)

adds : (time : ℕ) (p q : Point) → Step time p q → Adds p q
adds time p _ (Reads ok b lock bytes asked none whole read) = nothing refl refl refl
adds time p _ (Answers ok name call reply change kept done some can room keeps) = an_item _ [] refl refl refl (gains_none p.list) refl
adds time p _ (AnswersQuietly ok name call reply change done none no_sync) = an_item _ [] refl refl refl (gains_none p.list) refl
adds time p _ (Syncs ok name low) = an_item _ [] refl refl refl (gains_none p.list) refl
adds time p _ (TellsFull ok call need free spaceless low) = an_item _ [] refl refl refl (gains_none p.list) refl
adds time p _ (HasNoSpace name call need free awaited spaceless ends) = an_item _ [] refl refl refl (gains_none p.list) refl
adds time p _ (BeginsFlush ok none due room) = nothing refl refl refl
adds time p _ (BeginsHeader ok none home some no_more) = nothing refl refl refl
adds time p _ (WritesLog new f b bytes list flush numbers step may gains) = an_item _ (Write 1 b bytes ∷ []) refl refl refl gains refl
adds time p _ (EndsBlocks new f done bytes list flush stage step flies gains) = an_item _ (Barrier 1 ∷ []) refl refl refl gains refl
adds time p _ (WritesHead new f b sequence bytes list flush numbers step may gains) = an_item _ (Write 1 b bytes ∷ []) refl refl refl gains refl
adds time p _ (EndsFlush new f tail bytes list flush numbers stage step flies gains) = an_item _ (Barrier 1 ∷ []) refl refl refl gains refl
adds time p _ (Commits b awaited ends) = an_item _ [] refl refl refl (gains_none p.list) refl
adds time p _ (GoesHome ok new lock b bytes list answer may gains) = an_item _ (Write 1 b bytes ∷ []) refl refl refl gains refl
adds time p _ (Rests new list ok no_header settles flies gains) = an_item _ (Barrier 1 ∷ []) refl refl refl gains refl
adds time p _ (Unmounts ok) = an_item _ [] refl refl refl (gains_none p.list) refl

-- ---- many

gains_on : (a b c : Option (List Operation)) (xs ys : List Operation) → Gains a b xs → Gains b c ys → Gains a c (xs ++ ys)
gains_on a b None xs ys first second = tt
gains_on None None (Some c) xs ys first second = absurd second
gains_on (Some a) None (Some c) xs ys first second = absurd second
gains_on None (Some b) (Some c) xs ys first second = absurd first
gains_on (Some a) (Some b) (Some c) xs ys first second = second ∙ ap (λ (zs : List Operation). zs ++ ys) first ∙ append_assoc a xs ys

disk_on : (d : DiskState) (xs ys : List Operation) → disk_after d (xs ++ ys) ≡ disk_after (disk_after d xs) ys
disk_on d [] ys = refl
disk_on d (x ∷ xs) ys = disk_on (with_operation d x) xs ys

of_run_on : (xs : List TraceItem) (x : TraceItem) → AllByRecursion IsOfRun xs → IsOfRun x → AllByRecursion IsOfRun (xs ++ x ∷ [])
of_run_on [] x all is = (is, tt)
of_run_on (y ∷ xs) x all is = (all.0, of_run_on xs x all.1 is)

module _ (items_go_on : ItemsGoOn) where
  told_on : (p q r : Point) → TellsWhatItDoes p q → Adds q r → TellsWhatItDoes p r
  told_on p q r told (nothing items list disk) = record {
    more = told.more;
    items = items ∙ told.items;
    of_run = told.of_run;
    operations = told.operations;
    told = told.told;
    gains = subst (λ l. Gains p.list l told.operations) (sym list) told.gains;
    disk = disk ∙ told.disk;
  }
  told_on p q r told (an_item item operations items own done gains disk) = record {
    more = told.more ++ item ∷ [];
    items = items ∙ ap (λ (is : List TraceItem). is ++ item ∷ []) told.items ∙ append_assoc p.items told.more (item ∷ []);
    of_run = of_run_on told.more item told.of_run own;
    operations = told.operations ++ operations;
    told = items_go_on told.more (item ∷ []) told.operations operations told.told done;
    gains = gains_on p.list q.list r.list told.operations operations told.gains gains;
    disk = disk ∙ ap (λ (d : DiskState). disk_after d operations) told.disk ∙ sym (disk_on p.disk told.operations operations);
  }

  pub steps_are_told : StepsAreTold
  steps_are_told time p _ Here = record { more = []; items = sym (append_nil p.items); of_run = tt; operations = []; told = refl; gains = gains_none p.list; disk = refl }
  steps_are_told time p _ (Then q r before last) = told_on p q r (steps_are_told time p q before) (adds time q r last)

pub steps_go_on : StepsGoOn
steps_go_on time p q _ first Here = first
steps_go_on time p q _ first (Then r t before last) = Then r t (steps_go_on time p q r first before) last

-- ---- fronts of lists

pub take_front : {A : Type 0} (count : ℕ) (xs ys : List A) → count ≤ length xs → take count (xs ++ ys) ≡ take count xs
take_front zero xs ys low = refl
take_front (suc n) [] ys low = absurd (omega (arith, low))
take_front (suc n) (x ∷ xs) ys low = ap (λ l. x ∷ l) (take_front n xs ys (omega (arith, low)))

pub take_all : {A : Type 0} (count : ℕ) (xs : List A) → length xs ≤ count → take count xs ≡ xs
take_all zero [] low = refl
take_all zero (x ∷ xs) low = absurd (omega (arith, low))
take_all (suc n) [] low = refl
take_all (suc n) (x ∷ xs) low = ap (λ l. x ∷ l) (take_all n xs (omega (arith, low)))

-- ---- what the lists of the two ends tell

pub left_same : {A : Type 0} (xs ys zs : List A) → xs ++ ys ≡ xs ++ zs → ys ≡ zs
left_same [] ys zs e = e
left_same (x ∷ xs) ys zs e = left_same xs ys zs (tail e)
  where
    tail : {A : Type 0} {x : A} {us vs : List A} → x ∷ us ≡ x ∷ vs → us ≡ vs
    tail e = cc

drop_front : {A : Type 0} (xs ys : List A) → drop (length xs) (xs ++ ys) ≡ ys
drop_front [] ys = refl
drop_front (x ∷ xs) ys = drop_front xs ys

length_of : (operations : List Operation) → length (map deed_of operations) ≡ length operations
length_of [] = refl
length_of (o ∷ os) = ap suc (length_of os)

gained : (a b c : Option (List Operation)) (was all xs ys : List Operation) → a ≡ Some was → c ≡ Some (was ++ all) → Gains a b xs → Gains b c ys → (b ≡ Some (was ++ xs)) × (all ≡ xs ++ ys)
gained a None c was all xs ys was_is all_is front later = absurd (subst (λ l. Gains None l ys) all_is later)
gained a (Some b) c was all xs ys was_is all_is front later =
    let there : b ≡ was ++ xs = subst (λ l. Gains l (Some b) xs) was_is front in
    let behind : was ++ all ≡ b ++ ys = subst (λ l. Gains (Some b) l ys) all_is later in
    (ap Some there, left_same was all (xs ++ ys) (behind ∙ ap (λ zs. zs ++ ys) there ∙ append_assoc was xs ys))

module _ (items_go_on : ItemsGoOn) (time : ℕ) (p m q : Point) (before : Steps time p m) (behind : Steps time m q) where
  first : TellsWhatItDoes p m
  first = steps_are_told items_go_on time p m before

  rest : TellsWhatItDoes m q
  rest = steps_are_told items_go_on time m q behind

  module _ (was operations : List Operation) (was_is : p.list ≡ Some was) (all_is : q.list ≡ Some (was ++ operations)) where
    its : (m.list ≡ Some (was ++ first.operations)) × (operations ≡ first.operations ++ rest.operations)
    its = gained p.list m.list q.list was operations first.operations rest.operations was_is all_is first.gains rest.gains

    count_is : told_count (drop (length p.items) m.items) ≡ length first.operations
    count_is = ap (λ is. told_count (drop (length p.items) is)) first.items ∙ ap told_count (drop_front p.items first.more) ∙ ap length first.told ∙ length_of first.operations

    front_is : first_told (drop (length p.items) m.items) operations ≡ first.operations
    front_is =
        ap (λ n. take n operations) count_is ∙ ap (take (length first.operations)) its.1
        ∙ take_front (length first.operations) first.operations rest.operations (le_refl (length first.operations)) ∙ take_all (length first.operations) first.operations (le_refl (length first.operations))

    pub list_there : m.list ≡ Some (was ++ first_told (drop (length p.items) m.items) operations)
    list_there = its.0 ∙ ap (λ (os : List Operation). Some (was ++ os)) (sym front_is)

    pub disk_there : m.disk ≡ disk_after p.disk (first_told (drop (length p.items) m.items) operations)
    disk_there = first.disk ∙ ap (disk_after p.disk) (sym front_is)

-- ---- the point of a front

module _ (items_go_on : ItemsGoOn) where
  here_by : (time : ℕ) (p q : Point) (count : ℕ) → Steps time p q → length q.items ≤ count → CameBy time p q count
  here_by time p q count steps low = record {
    point = q;
    before = steps;
    behind = Here;
    items = take_all count q.items low;
    list = list_there items_go_on time p q q steps Here;
    disk = disk_there items_go_on time p q q steps Here;
  }

  pub fronts_are_passed : FrontsArePassed
  fronts_are_passed time p _ count Here low high = here_by time p p count Here low
  fronts_are_passed time p _ count (Then q r before last) low high = by (adds time q r last) (λ inside. fronts_are_passed time p q count before low inside)
    where
      earlier : CameBy time p q count → count ≤ length q.items → (more : List TraceItem) → r.items ≡ q.items ++ more → CameBy time p r count
      earlier came inside more items = record {
        point = came.point;
        before = came.before;
        behind = Then q r came.behind last;
        items = ap (take count) items ∙ take_front count q.items more inside ∙ came.items;
        list = list_there items_go_on time p came.point r came.before (Then q r came.behind last);
        disk = disk_there items_go_on time p came.point r came.before (Then q r came.behind last);
      }

      dec : (a b : ℕ) → (a ≤ b) ⊎ (b < a)
      dec zero b = inl (omega arith)
      dec (suc a) zero = inr (omega arith)
      dec (suc a) (suc b) = elim (dec a b) [ inl h ↦ inl (omega (arith, h)) | inr h ↦ inr (omega (arith, h)) ]

      by : Adds q r → (count ≤ length q.items → CameBy time p q count) → CameBy time p r count
      by (nothing items list disk) came =
          let inside = subst (λ (l : List TraceItem). count ≤ length l) items high in
          earlier (came inside) inside [] (items ∙ sym (append_nil q.items))
      by (an_item item operations items own done gains disk) came = elim (dec count (length q.items)) [
        | inl inside ↦ earlier (came inside) inside (item ∷ []) items
        | inr behind ↦ here_by time p r count (Then q r before last) (let n = ap length items in let m = length-append q.items (item ∷ []) in omega (arith, n, m, behind))
      ]
