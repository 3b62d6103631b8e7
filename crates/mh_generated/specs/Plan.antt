-- The plan that is made from a number.
use Rattle.std.specs.Prelude.{ℕ, ◌+◌, ◌%◌, List, ◌++◌, codes}
use Rattle.std.specs.Fmt.{decimal}
use Rattle.std.specs.List.{flat_map, range_with_len}
use Rattle.mh_generated.specs.Counts.{calls_of_thread, site_count, thread_count}

-- the call site, among this many, that a thread's call of a number names: the threads begin one site after the other
abbrev pub called_site : ℕ → ℕ → ℕ → ℕ
called_site sites thread call = (thread + call) % sites

-- the line of a call: its site, and its number as the argument
unfoldable pub call_text : ℕ → ℕ → ℕ → List ℕ
call_text sites thread call =
    codes "indy " ++ decimal (called_site sites thread call) ++ codes " i:" ++ decimal call ++ codes "\n"

-- the lines of this many calls of a thread
unfoldable pub calls_text : ℕ → ℕ → ℕ → List ℕ
calls_text sites thread count = flat_map (call_text sites thread) (range_with_len 0 count)

-- the lines of a thread
unfoldable pub thread_text : ℕ → ℕ → List ℕ
thread_text sites thread = codes "thread\n" ++ calls_text sites thread calls_of_thread

-- the lines of this many threads
unfoldable pub threads_text : ℕ → ℕ → List ℕ
threads_text sites count = flat_map (thread_text sites) (range_with_len 0 count)

-- the plan
unfoldable pub generated_plan : ℕ → List ℕ
generated_plan number = threads_text (site_count number) (thread_count number)
