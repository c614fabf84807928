pub mod SpanCombinable
