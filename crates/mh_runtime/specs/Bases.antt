-- What the passes of lanes are split off.
use Rattle.std.specs.Prelude.{[]}
use Rattle.mh_condy.specs.Passes as consts
use Rattle.mh_handle.specs.Passes.{PassView, pass_at}
use Rattle.mh_handle.specs.Seats as forms_seat
use Rattle.mh_intern.specs.Views as types_seat
use Rattle.mh_tickets.specs.Seats as serials
use Rattle.mh_tickets.specs.Seats.{TicketsId}
use Rattle.mh_runtime.specs.declared.pass.Pass.{Pass}
use Rattle.mh_runtime.specs.Passes.{LinkPass}

-- a pass that lanes are split off, whichever run it is of
pub record Base : Type 0 where
  pub links : LinkPass
  pub forms : PassView
  pub types : types_seat.SeatView

-- this pass as a base
abbrev pub base_of : {J : Type 0} → Pass J → Base
base_of pass = record { links = pass.links; forms = pass.forms; types = pass.types }

-- the pass that a base is
abbrev pub pass_of : {J : Type 0} → Base → Pass J
pass_of base = record { links = base.links; forms = base.forms; types = base.types }

-- a counter that is none
abbrev no_counter : TicketsId
no_counter = record { words = 0; slots = 0; views_name = 0; atom = 0; block = 0; offset = 0; slot_names = [] }

-- a base of no run
abbrev pub no_base : Base
no_base = record {
  links = record {
    linker = record { cells = []; serials = no_counter };
    thread = 0;
    linked = [];
    attempts = [];
    recorded = [];
    seat = serials.new_seat no_counter 0;
    linkages = [];
    constants = consts.pass_at (record { cells = []; serials = no_counter }) 0 0 (serials.new_seat no_counter 0);
  };
  forms = pass_at (record { chains = []; tickets = no_counter }) (forms_seat.new_seat (record { chains = []; tickets = no_counter }) 0);
  types = types_seat.new_seat (record { claims = no_counter; holders = no_counter }) 0;
}
