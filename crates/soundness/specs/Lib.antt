pub mod WaysJudged
