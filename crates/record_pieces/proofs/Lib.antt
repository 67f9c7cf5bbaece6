pub mod ClassLaws
pub mod NeedLaws
pub mod RankingLaws
