-- How much there is in the input that is made from a number.
use Rattle.std.specs.Prelude.{ℕ, ◌+◌, ◌%◌}

-- how many call sites its class has: 1 to 64
abbrev pub site_count : ℕ → ℕ
site_count number = 1 + number % 64

-- how many threads its plan has: 1 to 8
abbrev pub thread_count : ℕ → ℕ
thread_count number = 1 + number % 8

-- how many calls each thread makes
abbrev pub calls_of_thread : ℕ
calls_of_thread = 1000
