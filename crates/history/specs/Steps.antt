-- The steps through a history, by the numbers of its record (STANDARD 3).
use Rattle.std.specs.Prelude.{ℕ, ◌+◌, ◌-◌, cond, ltb, eqb, Some, None, Option}
use Rattle.history.specs.declared.stepping.History.{History}
use Rattle.history.specs.declared.stepping.Step.{Step}

-- the same history at another place (3.8, 3.9, 3.15, 3.16)
abbrev pub placed_at : History → ℕ → History
placed_at h place = record { count = h.count; place = place; total = h.total; first = h.first }

-- Up: at place 0 nothing; otherwise the place steps back, and the entry there is recalled (3.8)
unfoldable pub back : History → Step
back h =
    cond (eqb h.place 0) (record { history = h; recalled = None })
    (record { history = placed_at h (h.place - 1); recalled = Some (h.place - 1) })

-- Down: below the count the place steps on, and the entry there is recalled unless it has arrived at the count (3.9)
unfoldable pub recalled_at : ℕ → ℕ → Option ℕ
recalled_at count place = cond (ltb place count) (Some place) None

-- (3.9)
unfoldable pub onward : History → Step
onward h =
    cond (ltb h.place h.count)
    (record { history = placed_at h (h.place + 1); recalled = recalled_at h.count (h.place + 1) })
    (record { history = h; recalled = None })
