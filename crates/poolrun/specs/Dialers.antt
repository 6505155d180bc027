-- The dialers that the program hands to the top call.
use Rattle.edge_traits.specs.Dialers.{IsUnused}
use Rattle.origin_core.specs.InnerDialers.{dialer_view}
use Rattle.origin_core.specs.declared.inner_dialer.InnerDialer.{InnerDialer}

abbrev pub IsUnusedInner : InnerDialer → Type 0
IsUnusedInner dialer = IsUnused (dialer_view dialer)
