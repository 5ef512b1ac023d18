-- What the code's entry of a link says.
use Rattle.trace_events.specs.Event.{Link}
use Rattle.state_tables.specs.declared.held_link.HeldLink.{HeldLink}
use Rattle.state_tables.specs.OwnOctets.{octets_in}

abbrev pub held_link_view : HeldLink → Link
held_link_view l = record {
  number = l.number;
  session = l.session;
  handle = l.handle;
  role = l.role;
  address = octets_in l.address;
  is_pre_settled = l.is_pre_settled;
  our_first_count = l.our_first_count;
  their_first_count = l.their_first_count;
}
