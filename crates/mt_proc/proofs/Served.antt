-- Processors that stand idle, each with its file, and an update of them.
use Rattle.std.proofs.Common.{◌≡◌, ◌∙◌, ap, sym, refl, subst, arith, get_or, ℕ, zero, suc, ◌+◌, ◌-◌, ◌^◌, ◌<◌, ◌≤◌, List, [], ◌∷◌, length, map, Option, None, Some}
use Rattle.std.specs.Prelude.{IsSome, replicate}
use Rattle.std.specs.List.{All}
use Rattle.std.specs.Option.{option_map_or}
use Rattle.std.proofs.lemmas.List.{get_or-replicate, length-map, length-replicate}
use Rattle.std.proofs.lemmas.List.Elements.{All-head, All-map}
use Rattle.mt_regs.specs.declared.fault.Fault.{Fault}
use Rattle.mt_regs.specs.Faults.{IsAccepted, IsFirstFault}
use Rattle.mt_regs.specs.FirstFault.{first_fault}
use Rattle.mt_regs.specs.RegisterFile.{RegisterFile, IsRegisterFile}
use Rattle.mt_regs.specs.StartFiles.{AreStartFiles, SameKind}
use Rattle.mt_regs.proofs.StartFiles.{copies_start}
use Rattle.mt_dump.specs.Dumps.{first_of}
use Rattle.mt_machine.specs.Machine.{FitsGoal, Machine, Order}
use Rattle.mt_machine.specs.Start.{HasEraRoom}
use Rattle.mt_machine.specs.System.{Processor}
use Rattle.mt_machine.specs.Update.{IsSettled, IsSettledOn, settled_processor, updated}
use Rattle.mt_core.specs.Rounds.{in_order}
use Rattle.mt_core.specs.declared.fault.CallFault.{CallFault}
use Rattle.mt_core.specs.declared.fault.CallFault.TheVariants.{Refused, UnderWay}
use Rattle.mt_regs.proofs.FirstFault.{is_first_fault}
use Rattle.mt_proc.specs.declared.applying.Applied.{Applied}
use Rattle.mt_proc.specs.declared.applying.Applied.TheVariants.{BadRange, Goal, NoneFree, NotUsed}
use Rattle.mt_proc.specs.After.{Served, with_change, with_goal}
use Rattle.mt_proc.specs.Serving.{Serves, changed, files_of, goal_after, idle, idling, served, served_of, standing}

all_replicate : {A : Type 0} (P : A → Type 0) (n : ℕ) (x : A) → P x → All P (replicate n x)
all_replicate P n x holds k d within =
    let below : k < n = omega (arith, within, length-replicate n x) in
    subst P (sym (get_or-replicate n k x d below)) holds

pub served_standing : (n : ℕ) (now : Served) → 0 < n → served (standing n now) ≡ now
served_standing zero now some = absurd (omega arith)
served_standing (suc n) now some = refl

pub files_idling : (files : List RegisterFile) (count : ℕ) → files_of (idling files count) ≡ files
files_idling [] count = refl
files_idling (f ∷ fs) count = ap (λ l. f ∷ l) (files_idling fs count)

pub served_idling : (files : List RegisterFile) (count : ℕ) → 0 < length files → served (idling files count) ≡ record { file = first_of files; count = count }
served_idling [] count some = absurd (omega arith)
served_idling (f ∷ fs) count some = refl

-- processors that begin with such files
pub serves_idling : (files : List RegisterFile) → 0 < length files → length files ≤ 16 → AreStartFiles files → Serves (idling files 0)
serves_idling files some few start =
    let size = length-map files (idle 0) in
    let count : (served (idling files 0)).count ≡ 0 = ap (λ (s : Served). s.count) (served_idling files 0 some) in
    record {
      stands = λ i. idling (sym (files_idling files 0) i) (sym count i);
      some = omega (arith, size, some);
      few = omega (arith, size, few);
      start = subst AreStartFiles (sym (files_idling files 0)) start;
      one_file = λ updated. absurd (omega (arith, updated, count));
    }

pub count_standing : (n : ℕ) (now : Served) → length (standing n now).system.processors ≡ n
count_standing n now = length-map (replicate n now.file) (idle now.count) ∙ length-replicate n now.file

pub serves_standing : (n : ℕ) (now : Served) → 0 < n → n ≤ 16 → IsRegisterFile now.file → IsAccepted now.file → Serves (standing n now)
serves_standing n now some few is_file accepted =
    let count = count_standing n now in
    let same = served_standing n now some in
    record {
      stands = λ i. idling (sym (files_idling (replicate n now.file) now.count) i) ((sym same i).count);
      some = omega (arith, count, some);
      few = omega (arith, count, few);
      start = subst AreStartFiles (sym (files_idling (replicate n now.file) now.count)) (copies_start n now.file is_file accepted);
      one_file = λ updated i. standing (sym count i) (sym same i);
    }

-- the state after an update
settled_each : (goal : RegisterFile) (count : ℕ) (files : List RegisterFile) → map (settled_processor goal) (map (idle count) files) ≡ map (idle (count + 1)) (replicate (length files) goal)
settled_each goal count [] = refl
settled_each goal count (f ∷ fs) = ap (λ l. idle (count + 1) goal ∷ l) (settled_each goal count fs)

pub updated_idling : (files : List RegisterFile) (count : ℕ) (takes : List ℕ) (goal : RegisterFile)
    → updated (idling files count).system takes goal ≡ standing (length files) (record { file = goal; count = count + 1 })
updated_idling files count takes goal =
    ap (λ (ps : List Processor). record (idling files count) { system = record (idling files count).system { processors = ps } }) (settled_each goal count files)

module _ (m : Machine) (serves : Serves m) where
  pub no_order : m.order ≡ None
  no_order = ap (λ (x : Machine). x.order) serves.stands

  pub first_file : (P : RegisterFile → Type 0) → All P (files_of m) → P (served m).file
  first_file P all = by m.system.processors serves.some all
    where
      by : (ps : List Processor) → 0 < length ps → All P (map (λ p. p.file) ps) → P (served_of ps).file
      by [] some all = absurd (omega arith)
      by (p ∷ ps) some all = All-head P p.file (map (λ p. p.file) ps) all

  each : (P : Processor → Type 0) → ((i : ℕ) (d : RegisterFile) → i < length (files_of m) → P (idle (served m).count (get_or (files_of m) i d))) → All P m.system.processors
  each P holds = subst (λ (x : Machine). All P x.system.processors) (sym serves.stands) (All-map P (idle (served m).count) (files_of m) (λ i d within. holds i d within))

  kinds : All (SameKind (served m).file) (files_of m)
  kinds = first_file (λ f. All (SameKind f) (files_of m)) serves.start.one_kind

  pub fits : (goal : RegisterFile) → goal.width ≡ (served m).file.width → goal.capabilities ≡ (served m).file.capabilities → All (FitsGoal goal) m.system.processors
  fits goal width capabilities = each (FitsGoal goal) (λ i d within. record { width = width ∙ (kinds i d within).width; capabilities = capabilities ∙ (kinds i d within).capabilities })

  pub era_room : (served m).count < 2 ^ 64 - 1 → HasEraRoom m
  era_room room = each (λ p. p.era < 2 ^ 64 - 1) (λ i d within. room)

pub settled_standing : (n : ℕ) (now : Served) → IsSettled (standing n now).system now.count now.file
settled_standing n now =
    All-map (IsSettledOn now.count now.file) (idle now.count) (replicate n now.file)
    (all_replicate (λ f. IsSettledOn now.count now.file (idle now.count f)) n now.file
    (record { file = refl; lines = λ k d within. absurd (omega arith); buffers = λ k d within. absurd (omega arith); entries = λ k d within. absurd (omega arith) }))

-- an update leaves all processors with the goal
pub stands_after : (m : Machine) (goal : RegisterFile) → m ≡ idling (files_of m) (served m).count → updated m.system (in_order m) goal ≡ standing (length m.system.processors) (record { file = goal; count = (served m).count + 1 })
stands_after m goal stands =
    ap (λ (x : Machine). updated x.system (in_order m) goal) stands
    ∙ updated_idling (files_of m) (served m).count (in_order m) goal
    ∙ ap (λ (n : ℕ). standing n (record { file = goal; count = (served m).count + 1 })) (length-map m.system.processors (λ p. p.file))

pub goal_standing : (m : Machine) (goal : RegisterFile) → Serves m → updated m.system (in_order m) goal ≡ standing (length m.system.processors) (record { file = goal; count = (served m).count + 1 })
goal_standing m goal serves = stands_after m goal serves.stands

-- a request leaves the processors, or all of them with one file
pub record Becomes (m new : Machine) (now : Served) : Type 0 where
  pub unchanged : now.count ≡ (served m).count → new ≡ m
  pub stands : (served m).count < now.count → new ≡ standing (length m.system.processors) now
  pub same : served new ≡ now
  pub each : length new.system.processors ≡ length m.system.processors

module _ (m : Machine) (serves : Serves m) where
  kept : Becomes m m (served m)
  kept = record { unchanged = λ e. refl; stands = λ less. absurd (omega (arith, less)); same = refl; each = refl }

  goal_becomes : (goal : RegisterFile) (fault : Option Fault) → Becomes m (option_map_or (λ f. m) fault (updated m.system (in_order m) goal)) (with_goal (served m) goal fault)
  goal_becomes goal (Some fault) = kept
  goal_becomes goal None = record {
    unchanged = λ e. absurd (omega (arith, e));
    stands = λ less. goal_standing m goal serves;
    same = ap served (goal_standing m goal serves) ∙ served_standing _ _ serves.some;
    each = ap (λ (x : Machine). length x.system.processors) (goal_standing m goal serves) ∙ count_standing _ _;
  }

  pub becomes : (a : Applied) → Becomes m (changed m a) (with_change (served m) a)
  becomes (Goal goal n) = goal_becomes goal (first_fault goal)
  becomes BadRange = kept
  becomes NoneFree = kept
  becomes NotUsed = kept

-- an update's answer is the first fault
pub none_refused : (m : Machine) (goal : RegisterFile) → IsAccepted goal → (None ≡ first_fault goal) × (updated m.system (in_order m) goal ≡ goal_after m goal)
none_refused m goal accepted =
    let none : first_fault goal ≡ None = sym (is_first_fault goal None accepted) in
    (sym none, ap (λ (fault : Option Fault). option_map_or (λ f. m) fault (updated m.system (in_order m) goal)) (sym none))

pub some_refused : (m : Machine) (goal : RegisterFile) (own : Fault) → IsFirstFault goal (Some own) → (Some own ≡ first_fault goal) × (m ≡ goal_after m goal)
some_refused m goal own first =
    let some : first_fault goal ≡ Some own = sym (is_first_fault goal (Some own) first) in
    (sym some, ap (λ (fault : Option Fault). option_map_or (λ f. m) fault (updated m.system (in_order m) goal)) (sym some))

-- the goal of an update stands
pub serves_goal : (m : Machine) (goal : RegisterFile) → Serves m → IsRegisterFile goal → IsAccepted goal → Serves (updated m.system (in_order m) goal)
serves_goal m goal serves is_file accepted =
    subst Serves (sym (goal_standing m goal serves))
    (serves_standing (length m.system.processors) (record { file = goal; count = (served m).count + 1 }) serves.some serves.few is_file accepted)

-- where no update is under way a call is refused for the goal's first fault alone
pub record IsRefused (m : Machine) (goal : RegisterFile) (fault : CallFault) : Type 0 where
  pub own : Fault
  pub is : fault ≡ Refused own
  pub first : IsFirstFault goal (Some own)

pub is_refused : (m : Machine) (goal : RegisterFile) (fault : CallFault) → Serves m → (fault ≡ UnderWay → IsSome m.order) → ((own : Fault) → fault ≡ Refused own → IsFirstFault goal (Some own)) → IsRefused m goal fault
is_refused m goal UnderWay serves busy bad = let h = subst (λ (o : Option Order). IsSome o) (no_order m serves) (busy refl) in absurd (cc h)
is_refused m goal (Refused own) serves busy bad = record { own = own; is = refl; first = bad own refl }
