-- What the types of the ranges that hold a page leave on it (own): none, a type, or a clash. Two types leave what
-- Intel SDM volume 3A, chapter Memory Cache Control, section "MTRR Precedences", says of overlapping variable ranges.
use Rattle.std.specs.Prelude.{ℕ, ◌==◌, Bool, false, ◌||◌, ◌&&◌, if◌then◌else◌, List, [], ◌∷◌}
use Rattle.mt_kinds.specs.declared.mem_type.MemType.{MemType}
use Rattle.mt_kinds.specs.declared.mem_type.MemType.TheVariants.{UC, WC, WT, WP, WB}
use Rattle.mt_regs.specs.declared.page_type.PageType.{PageType}
use Rattle.mt_regs.specs.declared.page_type.PageType.TheVariants.{Kind, Undefined}
use Rattle.mt_regs.specs.PageTypes.{is_type}
use Rattle.mt_trie.specs.declared.context.Context.{Context}
use Rattle.mt_trie.specs.declared.context.Context.TheVariants.{Untouched, Has, Clash}

abbrev pub types : List MemType
types = UC ∷ WC ∷ WT ∷ WP ∷ WB ∷ []

abbrev pub rank_of : Context → ℕ
rank_of Untouched = 0
rank_of (Has UC) = 1
rank_of (Has WC) = 2
rank_of (Has WT) = 3
rank_of (Has WP) = 4
rank_of (Has WB) = 5
rank_of Clash = 6

abbrev pub is_same : Context → Context → Bool
is_same x y = rank_of x == rank_of y

-- what two contexts of which neither is empty leave together
abbrev pub join_two : Context → Context → Context
join_two x y =
    if is_same x y then x
    else (if is_same x (Has UC) || is_same y (Has UC) then Has UC
    else (if (is_same x (Has WB) && is_same y (Has WT)) || (is_same x (Has WT) && is_same y (Has WB)) then Has WT
    else Clash))

-- what two contexts leave together
abbrev pub join : Context → Context → Context
join Untouched y = y
join x Untouched = x
join x y = join_two x y

abbrev pub contexts : List Context
contexts = Untouched ∷ Has UC ∷ Has WC ∷ Has WT ∷ Has WP ∷ Has WB ∷ Clash ∷ []

-- what some types leave together
abbrev pub joined : List MemType → Context
joined [] = Untouched
joined (t ∷ ts) = join (Has t) (joined ts)

-- the type of a page with this context, where the default type is given
abbrev pub type_left : MemType → Context → PageType
type_left default Untouched = Kind default
type_left default (Has t) = Kind t
type_left default Clash = Undefined

abbrev pub is_kind : PageType → MemType → Bool
is_kind (Kind t) u = is_type t u
is_kind Undefined u = false
