-- What steps of seats make of the rule.
use Rattle.std.proofs.Common.{◌≡◌, ◌≢◌, ◌⊎◌, ◌∙◌, ap, sym, refl, subst, arith, ℕ, zero, suc, ◌+◌, ◌<◌, Bool, true, false, List, [], ◌∷◌, ◌++◌, length, map, set, Option, None, Some, inl, inr, ⊎_elim, ◌||◌, length-set, get_or-set_other, get_or-set_same}
use Rattle.std.specs.Prelude.{slice_index}
use Rattle.std.proofs.lemmas.List.{map-append, map-set}
use mathlib.Core.Option.{some, some-injective, some-ne-none}
use lib.ListN.{get_elem?}
use Rattle.atomic_table.specs.Table.{Joins, Splits, State}
use Rattle.atomic_table.proofs.Lists.{at_set, set_else, set_here}
use Rattle.mt_machine.specs.declared.op.Op.{Op}
use Rattle.mt_machine.specs.declared.go.Go.{Go}
use Rattle.mt_machine.specs.declared.go.Go.TheVariants.{Cancelled, Pending}
use Rattle.mt_machine.specs.Machine.{IsEnabled, MachineEvent, next}
use Rattle.mt_rendezvous.specs.declared.view.Held.{Held}
use Rattle.mt_rendezvous.specs.declared.view.Key.{Key}
use Rattle.mt_rendezvous.specs.declared.view.Start.{Start}
use Rattle.mt_rendezvous.specs.declared.view.View.{View}
use Rattle.mt_rendezvous.specs.Station.{IsHeld, both, one, others, pass_right, root_left, spent, start_of}
use Rattle.mt_rendezvous.specs.Plays.{with_go}
use Rattle.mt_rendezvous.proofs.Keeps.{AllSit, kept_present, moves_present, seats_moved}
use Rattle.mt_rendezvous.proofs.RootSteps.{join_present, owned, seats_decided, seats_joined, seats_split, split_present}
use Rattle.mt_private.specs.declared.view.Resident.{Resident}
use Rattle.mt_private.specs.declared.view.YardView.{YardView}
use Rattle.mt_private.specs.Residents.{Decides, ResidentFollows, Yard, held_of, yard_machine, scene, move_of}
use Rattle.mt_private.specs.YardLaws.{IsOneEvent, Stores}
use Rattle.mt_private.specs.YardRule.{AreAt, HoldsStored, MeetsYard, as_view, one_of, rest_of, with_one, with_decision, yard_both, yard_left, yard_right, yard_spent}

-- ---- lists

pub mapped_at : {X Y : Type 0} (f : X → Y) (xs : List X) (i : ℕ) (x : X) → get_elem? xs i ≡ some x → get_elem? (map f xs) i ≡ some (f x)
mapped_at f [] i x at = absurd (some-ne-none x (sym at))
mapped_at f (y ∷ xs) zero x at = ap (λ z. some (f z)) (some-injective y x at)
mapped_at f (y ∷ xs) (suc i) x at = mapped_at f xs i x at

at_less : {X : Type 0} (xs : List X) (i : ℕ) (x : X) → get_elem? xs i ≡ some x → i < length xs
at_less [] i x at = absurd (some-ne-none x (sym at))
at_less (y ∷ xs) zero x at = omega arith
at_less (y ∷ xs) (suc i) x at = let r = at_less xs i x at in omega arith

at_last : {X : Type 0} (xs : List X) (a b : X) (j : ℕ) → get_elem? (xs ++ a ∷ []) j ≡ some b → (get_elem? xs j ≡ some b) ⊎ (a ≡ b)
at_last [] a b zero e = inr (some-injective a b e)
at_last [] a b (suc j) e = absurd (some-ne-none b (sym e))
at_last (x ∷ xs) a b zero e = inl e
at_last (x ∷ xs) a b (suc j) e = at_last xs a b j e

either : (a b : Bool) → (a || b) ≡ true → (a ≡ true) ⊎ (b ≡ true)
either true b h = inl refl
either false b h = inr h

held_left : (ys : List Resident) → map held_of (rest_of ys) ≡ others (map held_of ys)
held_left [] = refl
held_left (y ∷ ys) = refl

held_right : (ys : List Resident) → map held_of (one_of ys) ≡ one (map held_of ys)
held_right [] = refl
held_right (y ∷ ys) = refl

-- the event words after a step of resident k, after which w stands in its place
words_stored : (words : List ℕ) (all : List Resident) (k i n : ℕ) (y w : Resident) → length words ≡ length all + 2 → HoldsStored words all → get_elem? all k ≡ some y → y.held.number ≡ k → Stores y i n w
    → HoldsStored (set words i n) (set all k w)
words_stored words all k i n y w wide old at number stores j z e =
    ⊎_elim
    (λ (x : (j ≡ k) × (w ≡ z)).
    ⊎_elim
    (λ (c : (i < 2) × (w.stored ≡ y.stored)).
    get_or-set_other words i (j + 2) n 0 (λ (q : j + 2 ≡ i). let low = c.0 in omega arith)
    ∙ old j y (ap (get_elem? all) x.0 ∙ at) ∙ sym c.1 ∙ ap (λ (u : Resident). u.stored) x.1)
    (λ (c : (i ≡ y.held.number + 2) × (n ≡ w.stored)).
    let there : j + 2 ≡ i = (let own = x.0 in let own_word = c.0 in omega arith) in
    ap (λ (h : ℕ). slice_index (set words i n) h) there
    ∙ get_or-set_same words i n 0 (let low = at_less all k y at in let own_word = c.0 in omega arith)
    ∙ c.1 ∙ ap (λ (u : Resident). u.stored) x.1)
    stores)
    (λ (x : (j ≢ k) × (get_elem? all j ≡ some z)).
    get_or-set_other words i (j + 2) n 0
    (λ (q : j + 2 ≡ i). ⊎_elim
    (λ (c : (i < 2) × (w.stored ≡ y.stored)). let low = c.0 in omega arith)
    (λ (c : (i ≡ y.held.number + 2) × (n ≡ w.stored)). x.0 (let own_word = c.0 in omega arith))
    stores)
    ∙ old j z x.1)
    (at_set all k j w z e)

module _ (key : Key) (s : State Op YardView) (m : MeetsYard key s) where
  abbrev t : Start
  t = start_of key

  abbrev hs : List Held
  hs = map held_of m.all

  abbrev views : List View
  views = map as_view s.views

  -- ---- the resident of a pass moves

  module _ (id : ℕ) (v : YardView) (y : Resident) (at : get_elem? s.views id ≡ some v) (is : v.held ≡ y ∷ []) where
    held_is : (as_view v).held ≡ y.held ∷ []
    held_is = ap (map held_of) is

    at_view : get_elem? views id ≡ some (as_view v)
    at_view = mapped_at as_view s.views id v at

    pub there : get_elem? m.all y.held.number ≡ some y
    there = m.same id v at 0 y (subst (λ (ys : List Resident). get_elem? ys 0 ≡ some y) (sym is) refl)

    -- its number is its owner's
    mine : m.owner y.held.number ≡ id
    mine = ((m.sits id (as_view v) at_view).holds 0 y.held (subst (λ (l : List Held). get_elem? l 0 ≡ some y.held) (sym held_is) refl)).1

    pub placed : (i n : ℕ) (w : Resident) (shown : Option ℕ) (cancel : Bool) (e : Option MachineEvent) → w.held.number ≡ y.held.number → Stores y i n w → (cancel ≡ true → m.go ≡ Cancelled)
        → ResidentFollows t (scene m.all m.go m.system) (move_of y.held.number w e) (slice_index (set s.words i n) 0) (slice_index (set s.words i n) 1)
        → IsOneEvent key s (record { words = set s.words i n; homes = s.homes; views = set s.views id (with_one v w shown cancel) }) m e
    placed i n w shown cancel e number stores told f = record {
      kept = record {
        all = set m.all y.held.number w;
        go = m.go;
        owner = m.owner;
        system = f.moves.system;
        yard = record { resides = f.moves.kept; first_count = f.first_count; second_count = f.second_count };
        wide = length-set s.words i n ∙ m.wide ∙ sym (ap (λ (k : ℕ). k + 2) (length-set m.all y.held.number w));
        stored = words_stored s.words m.all y.held.number i n y w m.wide m.stored there refl stores;
        present = λ k b.
            subst (λ (vs : List View). IsHeld vs k) (sym views_are)
            (moves_present views id (as_view v) (as_view new) y.held w.held at_view held_is refl number k (m.present k (subst (λ (n : ℕ). k < n) (length-set m.all y.held.number w) b)));
        sits = subst (λ (x : List Held × List View). AllSit t x.0 m.go m.owner x.1) (λ i. (sym (map-set held_of m.all y.held.number w) i, sym views_are i))
            (seats_moved t hs m.go m.owner views m.sits id (as_view v) y.held w.held at_view held_is number shown);
        same = λ j u e. ⊎_elim
            (λ (x : (j ≡ id) × (new ≡ u)). subst (λ (u : YardView). AreAt (set m.all y.held.number w) u.held) x.1 its_own)
            (λ (x : (j ≢ id) × (get_elem? s.views j ≡ some u)). λ i z at_z.
            let owner_is = ((m.sits j (as_view u) (mapped_at as_view s.views j u x.1)).holds i z.held (mapped_at held_of u.held i z at_z)).1 in
            set_else m.all y.held.number z.held.number w (λ eq. x.0 (sym owner_is ∙ ap m.owner eq ∙ mine)) ∙ m.same j u x.1 i z at_z)
            (at_set s.views id j new u e);
        cancels = λ j u e set_there. ⊎_elim
            (λ (x : (j ≡ id) × (new ≡ u)). told (ap (λ (u : YardView). u.cancel) x.1 ∙ set_there))
            (λ (x : (j ≢ id) × (get_elem? s.views j ≡ some u)). m.cancels j u x.1 set_there)
            (at_set s.views id j new u e);
      };
      enabled = f.moves.enabled;
      becomes = f.moves.becomes;
    }
      where
        new : YardView
        new = with_one v w shown cancel

        views_are : map as_view (set s.views id (with_one v w shown cancel)) ≡ set views id (as_view (with_one v w shown cancel))
        views_are = map-set as_view s.views id (with_one v w shown cancel)

        its_own : AreAt (set m.all y.held.number w) (w ∷ [])
        its_own zero z e =
            let eq : w ≡ z = some-injective w z e in
            subst (λ (u : Resident). get_elem? (set m.all y.held.number w) u.held.number ≡ some u) eq
            (subst (λ (k : ℕ). get_elem? (set m.all y.held.number w) k ≡ some w) (sym number) (set_here m.all y.held.number w (at_less m.all y.held.number y there)))
        its_own (suc i) z e = absurd (some-ne-none z (sym e))

  -- ---- the root

  -- it says so: the first count is n then
  pub says : (id n : ℕ) (v : YardView) (go : Go) (e : MachineEvent) → get_elem? s.views id ≡ some v → v.root ≡ true → 0 < length s.words → slice_index (set s.words 0 n) 1 ≡ slice_index s.words 1
      → m.go ≡ Pending → Decides t (scene m.all go m.system) n (slice_index s.words 1) e → IsOneEvent key s (record { words = set s.words 0 n; homes = s.homes; views = set s.views id (with_decision v go) }) m (Some e)
  says id n v go e at root some_word stays was d = record {
    kept = record {
      all = m.all;
      go = go;
      owner = m.owner;
      system = m.system;
      yard = subst (λ (x : ℕ × ℕ). Yard t (scene m.all go m.system) x.0 x.1) (λ i. (sym (get_or-set_same s.words 0 n 0 some_word) i, sym stays i)) d.kept;
      wide = length-set s.words 0 n ∙ m.wide;
      stored = λ k y e. get_or-set_other s.words 0 (k + 2) n 0 (λ (q : k + 2 ≡ 0). omega arith) ∙ m.stored k y e;
      present = λ k b. subst (λ (vs : List View). IsHeld vs k) (sym views_are) (kept_present views id (as_view v) (with_go (as_view v) go) at_view (λ i h e. (i, h, e, refl)) k (m.present k b));
      sits = subst (λ (vs : List View). AllSit t hs go m.owner vs) (sym views_are) (seats_decided t hs m.go m.owner views m.sits id (as_view v) at_view go root);
      same = λ j u e. ⊎_elim
          (λ (x : (j ≡ id) × (with_decision v go ≡ u)). subst (λ (u : YardView). AreAt m.all u.held) x.1 (m.same id v at))
          (λ (x : (j ≢ id) × (get_elem? s.views j ≡ some u)). m.same j u x.1)
          (at_set s.views id j (with_decision v go) u e);
      cancels = λ j u e shown. ⊎_elim
          (λ (x : (j ≡ id) × (with_decision v go ≡ u)). never (m.cancels id v at (ap (λ (u : YardView). u.cancel) x.1 ∙ shown)))
          (λ (x : (j ≢ id) × (get_elem? s.views j ≡ some u)). never (m.cancels j u x.1 shown))
          (at_set s.views id j (with_decision v go) u e);
    };
    enabled = subst (λ (g : Go). IsEnabled (yard_machine t g m.system) e) (sym was) d.enabled;
    becomes = d.becomes ∙ ap (λ (g : Go). next (yard_machine t g m.system) e) (sym was);
  }
    where
      at_view : get_elem? views id ≡ some (as_view v)
      at_view = mapped_at as_view s.views id v at

      -- it has said nothing yet
      never : m.go ≡ Cancelled → go ≡ Cancelled
      never c = absurd (let e : Pending ≡ Cancelled = sym was ∙ c in cc)

      views_are : map as_view (set s.views id (with_decision v go)) ≡ set views id (with_go (as_view v) go)
      views_are = map-set as_view s.views id (with_decision v go)

  -- it gives its first resident away
  pub splits : (id : ℕ) (v : YardView) (y : Resident) (ys : List Resident) → get_elem? s.views id ≡ some v → v.held ≡ y ∷ ys
      → IsOneEvent key s (record { words = s.words; homes = s.homes; views = set s.views id (yard_left v) ++ yard_right v ∷ [] }) m None
  splits id v y ys at is = record {
    kept = record {
      all = m.all;
      go = m.go;
      owner = owned m.owner y.held.number (length views);
      system = m.system;
      yard = m.yard;
      wide = m.wide;
      stored = m.stored;
      present = λ k b. subst (λ (vs : List View). IsHeld vs k) (sym views_are) (split_present views id (as_view v) y.held (map held_of ys) at_view held_is (ap others held_is) (ap one held_is) k (m.present k b));
      sits = subst (λ (vs : List View). AllSit t hs m.go (owned m.owner y.held.number (length views)) vs) (sym views_are) (seats_split t hs m.go m.owner views m.sits id (as_view v) at_view y.held (map held_of ys) held_is);
      same = λ j u e. ⊎_elim
          (λ (x : get_elem? (set s.views id (yard_left v)) j ≡ some u). ⊎_elim
          (λ (z : (j ≡ id) × (yard_left v ≡ u)). subst (λ (u : YardView). AreAt m.all u.held) z.1 left_at)
          (λ (z : (j ≢ id) × (get_elem? s.views j ≡ some u)). m.same j u z.1)
          (at_set s.views id j (yard_left v) u x))
          (λ (x : yard_right v ≡ u). subst (λ (u : YardView). AreAt m.all u.held) x right_at)
          (at_last (set s.views id (yard_left v)) (yard_right v) u j e);
      cancels = λ j u e shown. ⊎_elim
          (λ (x : get_elem? (set s.views id (yard_left v)) j ≡ some u). ⊎_elim
          (λ (z : (j ≡ id) × (yard_left v ≡ u)). m.cancels id v at (ap (λ (u : YardView). u.cancel) z.1 ∙ shown))
          (λ (z : (j ≢ id) × (get_elem? s.views j ≡ some u)). m.cancels j u z.1 shown)
          (at_set s.views id j (yard_left v) u x))
          (λ (x : yard_right v ≡ u). absurd (let e : false ≡ true = ap (λ (u : YardView). u.cancel) x ∙ shown in cc))
          (at_last (set s.views id (yard_left v)) (yard_right v) u j e);
    };
    enabled = tt;
    becomes = refl;
  }
    where
      at_view : get_elem? views id ≡ some (as_view v)
      at_view = mapped_at as_view s.views id v at

      held_is : (as_view v).held ≡ y.held ∷ map held_of ys
      held_is = ap (map held_of) is

      left_is : as_view (yard_left v) ≡ root_left (as_view v)
      left_is = ap (λ (l : List Held). record { root = v.root; held = l; go = v.go; shown = v.shown; start = v.start }) (held_left v.held)

      right_is : as_view (yard_right v) ≡ pass_right (as_view v)
      right_is = ap (λ (l : List Held). record { root = false; held = l; go = Pending; shown = None; start = v.start }) (held_right v.held)

      views_are : map as_view (set s.views id (yard_left v) ++ yard_right v ∷ []) ≡ set views id (root_left (as_view v)) ++ pass_right (as_view v) ∷ []
      views_are =
          map-append as_view (set s.views id (yard_left v)) (yard_right v ∷ [])
          ∙ (λ i. map-set as_view s.views id (yard_left v) i ++ as_view (yard_right v) ∷ [])
          ∙ (λ i. set views id (left_is i) ++ right_is i ∷ [])

      at_own : AreAt m.all (y ∷ ys)
      at_own = subst (AreAt m.all) is (m.same id v at)

      left_at : AreAt m.all (rest_of v.held)
      left_at = subst (λ (l : List Resident). AreAt m.all (rest_of l)) (sym is) (λ i z e. at_own (suc i) z e)

      right_at : AreAt m.all (one_of v.held)
      right_at = subst (λ (l : List Resident). AreAt m.all (one_of l)) (sym is) first_at
        where
          first_at : AreAt m.all (y ∷ [])
          first_at zero z e = at_own 0 z e
          first_at (suc i) z e = absurd (some-ne-none z (sym e))

  -- and takes the resident of a pass back
  pub joins : (id other : ℕ) (v w : YardView) (y : Resident) → get_elem? s.views id ≡ some v → v.root ≡ true → ¬ (other ≡ id) → get_elem? s.views other ≡ some w → w.held ≡ y ∷ []
      → IsOneEvent key s (record { words = s.words; homes = s.homes; views = set (set s.views id (yard_both v w)) other yard_spent }) m None
  joins id other v w y at root apart at_other is = record {
    kept = record {
      all = m.all;
      go = m.go;
      owner = owned m.owner y.held.number id;
      system = m.system;
      yard = m.yard;
      wide = m.wide;
      stored = m.stored;
      present = λ k b.
          subst (λ (vs : List View). IsHeld vs k) (sym views_are)
          (join_present views id other (as_view v) (as_view w) y.held at_view apart other_view held_is (ap (λ (l : List Held). l ++ map held_of v.held) held_is) k (m.present k b));
      sits = subst (λ (vs : List View). AllSit t hs m.go (owned m.owner y.held.number id) vs) (sym views_are)
          (seats_joined t hs m.go m.owner views m.sits id (as_view v) at_view other (as_view w) y.held root apart other_view held_is);
      same = λ j u e. ⊎_elim
          (λ (x : (j ≡ other) × (yard_spent ≡ u)). subst (λ (u : YardView). AreAt m.all u.held) x.1 (λ i z nothing. absurd (some-ne-none z (sym nothing))))
          (λ (x : (j ≢ other) × (get_elem? (set s.views id (yard_both v w)) j ≡ some u)). ⊎_elim
          (λ (z : (j ≡ id) × (yard_both v w ≡ u)). subst (λ (u : YardView). AreAt m.all u.held) z.1 both_at)
          (λ (z : (j ≢ id) × (get_elem? s.views j ≡ some u)). m.same j u z.1)
          (at_set s.views id j (yard_both v w) u x.1))
          (at_set (set s.views id (yard_both v w)) other j yard_spent u e);
      cancels = λ j u e shown. ⊎_elim
          (λ (x : (j ≡ other) × (yard_spent ≡ u)). absurd (let e : false ≡ true = ap (λ (u : YardView). u.cancel) x.1 ∙ shown in cc))
          (λ (x : (j ≢ other) × (get_elem? (set s.views id (yard_both v w)) j ≡ some u)). ⊎_elim
          (λ (z : (j ≡ id) × (yard_both v w ≡ u)). ⊎_elim (m.cancels id v at) (m.cancels other w at_other) (either v.cancel w.cancel (ap (λ (u : YardView). u.cancel) z.1 ∙ shown)))
          (λ (z : (j ≢ id) × (get_elem? s.views j ≡ some u)). m.cancels j u z.1 shown)
          (at_set s.views id j (yard_both v w) u x.1))
          (at_set (set s.views id (yard_both v w)) other j yard_spent u e);
    };
    enabled = tt;
    becomes = refl;
  }
    where
      at_view : get_elem? views id ≡ some (as_view v)
      at_view = mapped_at as_view s.views id v at

      other_view : get_elem? views other ≡ some (as_view w)
      other_view = mapped_at as_view s.views other w at_other

      held_is : (as_view w).held ≡ y.held ∷ []
      held_is = ap (map held_of) is

      both_is : as_view (yard_both v w) ≡ both (as_view v) (as_view w)
      both_is = ap (λ (l : List Held). record { root = v.root; held = l; go = v.go; shown = v.shown; start = v.start }) (map-append held_of w.held v.held)

      views_are : map as_view (set (set s.views id (yard_both v w)) other yard_spent) ≡ set (set views id (both (as_view v) (as_view w))) other spent
      views_are =
          map-set as_view (set s.views id (yard_both v w)) other yard_spent
          ∙ ap (λ (vs : List View). set vs other spent) (map-set as_view s.views id (yard_both v w))
          ∙ ap (λ (u : View). set (set views id u) other spent) both_is

      both_at : AreAt m.all (w.held ++ v.held)
      both_at = subst (λ (l : List Resident). AreAt m.all (l ++ v.held)) (sym is) joined_at
        where
          joined_at : AreAt m.all (y ∷ v.held)
          joined_at zero z e = m.same other w at_other 0 z (subst (λ (l : List Resident). get_elem? l 0 ≡ some z) (sym is) e)
          joined_at (suc i) z e = m.same id v at i z e

-- the table asks this of a join
pub joins_yard : (key : Key) (id other : ℕ) (v w : YardView) (y : Resident) → v.root ≡ true → w.held ≡ y ∷ [] → Joins (MeetsYard key) id v other w (yard_both v w) yard_spent
joins_yard key id other v w y root is s m at apart at_other = (joins key s m id other v w y at root apart (sym (set_else s.views id other (yard_both v w) apart) ∙ at_other) is).kept

-- and this of a split
pub splits_yard : (key : Key) (id : ℕ) (v : YardView) (y : Resident) (ys : List Resident) → v.held ≡ y ∷ ys → Splits (MeetsYard key) id v (yard_left v) (yard_right v)
splits_yard key id v y ys is s m at = (splits key s m id v y ys at is).kept
