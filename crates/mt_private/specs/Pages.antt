-- The physical pages that processors name, and the least that two of them name (own).
use Rattle.std.specs.Prelude.{ℕ, ◌/◌, ◌==◌, ◌<◌, ◌≤◌, nat_lt, Bool, ◌||◌, ◌&&◌, true, if◌then◌else◌, List, Option, None, Some}
use Rattle.std.specs.List.{count_by, fold, list_any}
use Rattle.mt_cache.specs.declared.line.CacheLine.{CacheLine}
use Rattle.mt_machine.specs.System.{Processor, System}

-- a line has 64 bytes and a page 4,096
abbrev pub page_of_line : CacheLine → ℕ
page_of_line l = l.number / 64

-- one of its mappings, TLB entries, cached lines or buffers lies in the page
abbrev pub names : ℕ → Processor → Bool
names page p =
    list_any (λ m. m.ppage == page) p.mappings || list_any (λ e. e.ppage == page) p.entries
    || list_any (λ l. page_of_line l == page) p.lines || list_any (λ l. page_of_line l == page) p.buffers

-- how many processors name it
abbrev pub naming : List Processor → ℕ → ℕ
naming ps page = count_by (names page) ps

-- no page is named by two processors
abbrev pub IsPrivate : System → Type 0
IsPrivate s = (page : ℕ) → naming s.processors page ≤ 1

-- the least page that two processors name
pub record IsLeastShared (s : System) (page : ℕ) : Type 0 where
  pub shared : 2 ≤ naming s.processors page
  pub least : (other : ℕ) → other < page → naming s.processors other ≤ 1

-- ---- the walk over all names

abbrev pub is_shared : List Processor → ℕ → Bool
is_shared ps page = nat_lt 1 (naming ps page)

abbrev pub is_below : ℕ → Option ℕ → Bool
is_below page None = true
is_below page (Some best) = nat_lt page best

-- the lesser one, where the page is shared
abbrev pub better : (ℕ → Bool) → Option ℕ → ℕ → Option ℕ
better shared best page = if is_below page best && shared page then Some page else best

-- after all names of a processor
abbrev pub after_names : (ℕ → Bool) → Option ℕ → Processor → Option ℕ
after_names shared best p =
    let mapped = fold (λ b m. better shared b m.ppage) best p.mappings in
    let translated = fold (λ b e. better shared b e.ppage) mapped p.entries in
    let cached = fold (λ b l. better shared b (page_of_line l)) translated p.lines in
    fold (λ b l. better shared b (page_of_line l)) cached p.buffers
