-- Sizes that definitions cite: the bytes of a page by the architecture, and the lines of memory by this project's choice (own).
use Rattle.std.specs.Prelude.{ℕ}

abbrev pub page_bytes : ℕ
page_bytes = 4096

-- the lines that all windows of memory have together at most
abbrev pub most_lines : ℕ
most_lines = 4096
