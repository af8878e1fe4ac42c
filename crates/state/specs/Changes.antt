-- How a call changes what keeps a state.
use Rattle.std.specs.Prelude.{ℕ, ◌+◌, ◌%◌}
use Rattle.rules.specs.Commands.{set_context, accepted_more, refused_more}
use Rattle.rules.specs.declared.Context.{Context}
use Rattle.rules.specs.declared.State.{State}

-- what each change makes of it: place i does this; one more accepted, refused, replied to, told; place i served, and does this
pub record Changes (A : Type 0) : Type 0 where
  pub place : A → ℕ → Context → A
  pub accepted : A → A
  pub refused : A → A
  pub reply : A → A
  pub value : A → A
  pub served : A → ℕ → Context → A

-- the changes of a State
abbrev pub state_changes : Changes State
state_changes =
    record {
      place = λ s i c. record s { places = set_context s.places i c };
      accepted = λ s. record s { accepted = accepted_more s };
      refused = λ s. record s { refused = refused_more s };
      reply = λ s. record s { replies = (s.replies + 1) % 16384 };
      value = λ s. record s { values = (s.values + 1) % 16384 };
      served = λ s i c. record s { places = set_context s.places i c; last = i; packets = (s.packets + 1) % 16384 };
    }
